-- The ray that a tried pair gives (modes.rs lines 982 to 1028; document 01, "A ray is angle, virtual height, true height, vertical frequency, absorption factor and layer").
use Rattle.std.specs.Prelude.{ℕ, ◌+◌, Option, Some, None, get_or, Float}
use Rattle.std.specs.Float.{nan}
use Rattle.arith.specs.Floats.{◌⊕◌, ◌⊖◌, ◌⊗◌, ◌⊘◌, RZ, D2R, R2D, PIO2, max_of}
use Rattle.arith.specs.Numbers.{0·000001, 0·5, 1·0}
use Rattle.root.specs.Root.{sqrt_of}
use Rattle.angles.specs.SinCos.{sin_of, cos_of}
use Rattle.angles.specs.Arctangent.{atan_of}
use Rattle.findf.specs.declared.Reflectrix.{Reflectrix}
use Rattle.fdist.specs.declared.pairs.Pair.{Pair}
use Rattle.fdist.specs.declared.pairs.Pair.TheVariants.{Nothing, Row, Spot}
use Rattle.fdist.specs.declared.rays.Ray.{Ray}

-- 987 to 992: a row as it is
abbrev pub row_of : Reflectrix → ℕ → Ray
row_of rfx i = record {
  del = get_or rfx.delfx i nan;
  hp = get_or rfx.hpflx i nan;
  ht = get_or rfx.htflx i nan;
  fv = get_or rfx.fvflx i nan;
  af = get_or rfx.afflx i nan;
  layer = get_or rfx.imode i 0;
}

-- 1011 to 1014: from x towards y by dth of dth2
abbrev towards : Float → Float → Float → Float → Float
towards x y dth dth2 = x ⊕ (y ⊖ x) ⊗ dth ⊘ dth2

-- 1016 to 1020: the take-off angle, in degrees, of a hop that spans twice thet at the height hp
abbrev angle_of : Float → Float → Float
angle_of thet hp = (PIO2 ⊖ atan_of (sin_of thet ⊘ (1·0 ⊖ cos_of thet ⊕ hp ⊘ RZ)) ⊖ thet) ⊗ R2D

-- 1021: the sine of the angle to the vertical at the true height ht
abbrev sphi_of : Float → Float → Float
sphi_of del ht = RZ ⊗ cos_of (del ⊗ D2R) ⊘ (RZ ⊕ ht)

-- 1022 and 1023: the frequency that the layer reflects vertically
abbrev vert_of : Float → Float → Float
vert_of freq sphi = freq ⊗ sqrt_of (max_of (1·0 ⊖ sphi ⊗ sphi) 0·000001)

-- 1006 to 1025: the spot between rows a and b
unfoldable pub spot_of : Ray → Ray → Float → Float → Float → Float → Ray
spot_of a b dth dth2 d freq =
    let thet = 0·5 ⊗ d ⊘ RZ in
    let hp = towards a.hp b.hp dth dth2 in
    let ht = towards a.ht b.ht dth dth2 in
    let del = angle_of thet hp in
    record { del = del; hp = hp; ht = ht; fv = vert_of freq (sphi_of del ht); af = towards a.af b.af dth dth2; layer = a.layer }

-- the ray of pair i, over its rows
abbrev pub given_of : (ℕ → Ray) → Float → Float → ℕ → Pair → Option Ray
given_of row d freq i Nothing = None
given_of row d freq i (Row k) = Some (row k)
given_of row d freq i (Spot dth dth2) = Some (spot_of (row i) (row (i + 1)) dth dth2 d freq)
