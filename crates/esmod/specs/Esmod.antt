-- The geometry of esmod, modes.rs lines 1441 to 1561: up to two hops by sporadic E, in the slots 4 and 5. The Rust's lines that make a loss are left out; none of these reads a number of theirs.
use Rattle.std.specs.Prelude.{ℕ, zero, suc, Bool, cond, List, [], ◌∷◌, leb, pos, get_or, Float}
use Rattle.std.specs.Float.{nan, binary32}
use Rattle.std.specs.Float.Ieee.{neg, lt, le, of_int, to_unsigned}
use Rattle.arith.specs.Floats.{◌⊕◌, ◌⊖◌, ◌⊗◌, ◌⊘◌, RZ, R2D, PIO2, VOFL}
use Rattle.arith.specs.Numbers.{0·0, 0·5, 1·0, 2·0}
use Rattle.limits.specs.Limits.{broken, refusal_freq, freq_within, refusal_amind, amind_within, refusal_es, es_within}
use Rattle.angles.specs.SinCos.{sin_of, cos_of}
use Rattle.angles.specs.Arcsine.{asin_of}
use Rattle.angles.specs.Arctangent.{atan_of}
use Rattle.esmod.specs.declared.EsHop.{EsHop}
use Rattle.esmod.specs.declared.EsModes.{EsModes}

-- ---- the point

-- the middle one of a point's three fs
abbrev pub middle_of : List (List Float) → ℕ → Float
middle_of fs k = get_or (get_or fs k []) 1 nan

-- "The point chosen is the one that `esmod` ends on": k starts at 0 and goes to each counted point at which the difference is above 0 (lines 1444 to 1449)
unfoldable pub point_of : List (List Float) → ℕ → ℕ
point_of fs zero = 0
point_of fs (suc is) = let k = point_of fs is in cond (lt 0·0 (middle_of fs k ⊖ middle_of fs is)) is k

-- ---- a hop

-- "the empty values there, −1 in all four fields" (lines 1460, 1468, 1469, 1472)
abbrev pub empty_hop : EsHop
empty_hop = record { b = neg 1·0; hn = neg 1·0; hp = neg 1·0; timed = neg 1·0 }

-- half the hop's angle at the earth's centre (lines 1493 to 1495)
unfoldable pub thet_of : Float → Float → Float
thet_of gcd gp = 0·5 ⊗ (gcd ⊘ gp)

-- the take-off angle in radians (lines 1496, 1497, 1501)
unfoldable pub del_of : Float → Float → Float
del_of hs thet = (PIO2 ⊖ thet) ⊖ atan_of (sin_of thet ⊘ ((1·0 ⊖ cos_of thet) ⊕ (hs ⊘ RZ)))

-- the length of the path of all hops, in km (lines 1507 to 1509)
unfoldable pub path_of : Float → Float → Float → Float → Float
path_of hs gp thet del = gp ⊗ (((2·0 ⊗ sin_of thet) ⊗ (RZ ⊕ hs)) ⊘ cos_of del)

-- "A hop below amind uses up its slot and leaves the empty values there" (lines 1503 to 1506); else its count, the layer's height, its angle in degrees and its delay in ms (lines 1551, 1554, 1555, 1559)
unfoldable pub hop_of : Float → Float → Float → Float → EsHop
hop_of hs gcd amind gp =
    let thet = thet_of gcd gp in
    let del = del_of hs thet in
    cond (lt (del ⊗ R2D) amind) empty_hop (record { b = del ⊗ R2D; hn = gp; hp = hs; timed = path_of hs gp thet del ⊘ VOFL })

-- ---- the hops

-- the farthest hop on the ground, in km (line 1482)
unfoldable pub sdmax_of : Float → Float
sdmax_of hs = (2·0 ⊗ RZ) ⊗ (PIO2 ⊖ asin_of (1·0 ⊘ (1·0 ⊕ (hs ⊘ RZ))))

-- the first number of hops that can reach, cut towards zero (line 1483). The Rust cuts to an i32: within the limits it is at least 1, so the sign is nothing (EsmodLaws, `from_hop_1`, `ihsrt_signed`)
unfoldable pub ihsrt_of : Float → Float → ℕ
ihsrt_of hs gcdkm = to_unsigned 31 ((gcdkm ⊘ sdmax_of hs) ⊕ 1·0)

-- "Two hops at most are tried": a slot's hop, if it is not beyond the second (lines 1484 to 1487, 1490)
unfoldable pub slot_of : Float → Float → Float → ℕ → EsHop
slot_of hs gcd amind ihop = cond (leb ihop 2) (hop_of hs gcd amind (of_int binary32 (pos ihop))) empty_hop

-- both slots empty, with the number of a refusal or 0
abbrev pub no_hops : ℕ → EsModes
no_hops n = record { refusal = n; slot4 = empty_hop; slot5 = empty_hop }

-- the first hop in slot 4, the next in slot 5, whatever became of the first (lines 1488 to 1492)
unfoldable pub hops_of : Float → Float → Float → Float → EsModes
hops_of hs gcd gcdkm amind = let ihsrt = ihsrt_of hs gcdkm in record { refusal = 0; slot4 = slot_of hs gcd amind ihsrt; slot5 = slot_of hs gcd amind (suc ihsrt) }

-- by the chosen point's middle fs and hs: both empty where freq ≤ fsdead or fs ≤ 0 (lines 1475 to 1480)
unfoldable pub modes_of : Float → Float → Float → Float → Float → Float → Float → EsModes
modes_of fs hs gcd gcdkm amind freq fsdead = cond (le freq fsdead) (no_hops 0) (cond (le fs 0·0) (no_hops 0) (hops_of hs gcd gcdkm amind))

-- ---- the call

-- "Errors: 14, .. after 5 and 6."
unfoldable pub limits_of : ℕ → List (List Float) → List Float → Float → Float → Float → Float → Float → List (ℕ × Bool)
limits_of km fs hs gcd gcdkm amind freq fsdead = (refusal_freq, freq_within freq) ∷ (refusal_amind, amind_within amind) ∷ (refusal_es, es_within km fs hs gcd gcdkm fsdead) ∷ []

-- a refused answer has the number, and both slots empty
unfoldable pub answer_of : ℕ → EsModes → EsModes
answer_of zero m = m
answer_of (suc n) m = no_hops (suc n)

unfoldable pub esmod_of : ℕ → List (List Float) → List Float → Float → Float → Float → Float → Float → EsModes
esmod_of km fs hs gcd gcdkm amind freq fsdead =
    let k = point_of fs km in
    answer_of (broken (limits_of km fs hs gcd gcdkm amind freq fsdead)) (modes_of (middle_of fs k) (get_or hs k nan) gcd gcdkm amind freq fsdead)
