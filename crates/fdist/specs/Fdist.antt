-- The hop search (modes.rs lines 911 to 1040; document 01, "fdist") as steps from state to state, a pair a step. Slots count from 0.
use Rattle.std.specs.Prelude.{ℕ, zero, suc, ◌+◌, Bool, true, false, cond, List, [], ◌∷◌, Option, Some, None, Result, Ok, Err, leb, get_or, set, replicate, Float}
use Rattle.std.specs.Float.{nan}
use Rattle.std.specs.Float.Ieee.{neg, le}
use Rattle.arith.specs.Floats.{◌⊗◌, RZ, abs_of}
use Rattle.arith.specs.Numbers.{0·0, 1·0}
use Rattle.arith.specs.Run.{Next, more, done, run}
use Rattle.limits.specs.Limits.{refusal_freq, freq_within, refusal_amind, amind_within, refusal_ghop, ghop_within, broken, number_of}
use Rattle.limits.specs.declared.Refusal.{Refusal}
use Rattle.findf.specs.declared.Reflectrix.{Reflectrix}
use Rattle.fdist.specs.declared.HopModes.{HopModes}
use Rattle.fdist.specs.declared.Found.{Found}
use Rattle.fdist.specs.declared.Searched.{Searched}
use Rattle.fdist.specs.declared.pairs.Pair.{Pair}
use Rattle.fdist.specs.declared.rays.Ray.{Ray}
use Rattle.fdist.specs.Pairs.{pair_of, next_of}
use Rattle.fdist.specs.Rays.{row_of, given_of}

-- what a search reads of a reflectrix: each row as a ray, and its hop length
pub record Rows : Type 0 where
  pub row : ℕ → Ray
  pub gd : ℕ → Float

abbrev pub rows_of : Reflectrix → Rows
rows_of rfx = record { row = row_of rfx; gd = λ i. get_or rfx.gdflx i nan }

-- 934 and 935: the rule on pair i
abbrev pub pair_at : Rows → Float → ℕ → Pair
pair_at t d i = pair_of i (t.gd i) (t.gd (i + 1)) d

-- a search on its way: the pair at hand (line 922), the pairs tried, the rays accepted, whose number is the open slot (923), and the slots
pub record Search : Type 0 where
  pub at : ℕ
  pub pairs : ℕ
  pub rays : ℕ
  pub m : HopModes

-- 912 to 917: "Six slots start as 0, height −1, layer 5."
abbrev pub empty_of : HopModes
empty_of = record {
  delmod = replicate 6 0·0;
  hpmod = replicate 6 (neg 1·0);
  htmod = replicate 6 0·0;
  fvmod = replicate 6 0·0;
  itmod = replicate 6 5;
  afmod = replicate 6 0·0;
}

-- 912 to 923: nothing tried
abbrev pub start : Search
start = record { at = 0; pairs = 0; rays = 0; m = empty_of }

-- the answer of a search that ends
abbrev pub found_by : ℕ → ℕ → HopModes → Searched
found_by pairs rays m = record { refusal = 0; pairs = pairs; rays = rays; m = m }

abbrev pub found_of : Search → Searched
found_of s = found_by s.pairs s.rays s.m

-- the answer where no pair is tried
abbrev pub none_of : Searched
none_of = found_of start

-- 987 to 1025: a ray in slot i, at the height hp
abbrev pub put_of : HopModes → ℕ → Ray → Float → HopModes
put_of m i r hp = record {
  delmod = set m.delmod i r.del;
  hpmod = set m.hpmod i hp;
  htmod = set m.htmod i r.ht;
  fvmod = set m.fvmod i r.fv;
  itmod = set m.itmod i r.layer;
  afmod = set m.afmod i r.af;
}

-- the state after a tried pair that gives nothing, after an accepted ray, and after one below the minimum angle
abbrev pub passed : Search → ℕ → Search
passed s next = record { at = next; pairs = s.pairs + 1; rays = s.rays; m = s.m }

abbrev pub accepted : Search → ℕ → Ray → Search
accepted s next r = record { at = next; pairs = s.pairs + 1; rays = s.rays + 1; m = put_of s.m s.rays r r.hp }

abbrev pub lowered : Search → ℕ → Ray → Search
lowered s next r = record { at = next; pairs = s.pairs + 1; rays = s.rays; m = put_of s.m s.rays r (neg (abs_of r.hp)) }

-- 1030 to 1037: does the ray reach the minimum angle, and is it the sixth? "A slot whose angle is not ≥ amind gets height −|height| and stays open; the sixth accepted slot ends."
unfoldable pub place_by : Bool → Bool → Search → ℕ → Ray → Next Search Searched
place_by true true s next r = done (found_of (accepted s next r))
place_by true false s next r = more (accepted s next r)
place_by false sixth s next r = more (lowered s next r)

-- what a tried pair leads to, by the ray that it gives
unfoldable pub after_of : Float → Search → ℕ → Option Ray → Next Search Searched
after_of amind s next None = more (passed s next)
after_of amind s next (Some r) = place_by (le amind r.del) (leb 6 (s.rays + 1)) s next r

-- 928 to 933: "Pairs go upward, ending after pair 44 or where the second row's height is ≤ 0."
abbrev pub beyond : ℕ → Bool
beyond i = leb 44 i

abbrev pub low : Rows → ℕ → Bool
low t i = le (t.row (i + 1)).hp 0·0

-- 926 to 1038: one turn, which ends or tries the pair at hand
unfoldable pub turn_by : Bool → Bool → Rows → Float → Float → Float → Search → Pair → Next Search Searched
turn_by true low t d amind freq s p = done (found_of s)
turn_by false true t d amind freq s p = done (found_of s)
turn_by false false t d amind freq s p = after_of amind s (next_of s.at p) (given_of t.row d freq s.at p)

unfoldable pub turn_of : Rows → Float → Float → Float → Search → Next Search Searched
turn_of t d amind freq s = turn_by (beyond s.at) (low t s.at) t d amind freq s (pair_at t d s.at)

-- 44 pairs at most, and the turn that ends
abbrev pub turns : ℕ
turns = 45

-- 924 to 1039
unfoldable pub run_of : Rows → Float → Float → Float → Searched
run_of t d amind freq = run (turn_of t d amind freq) none_of turns start

-- 919 to 921: "d ≥ dmaxkm, which is the farthest hop wherever that is spoken of, ends."
unfoldable pub search_by : Rows → Float → Float → Float → Float → Searched
search_by t dmaxkm d amind freq = cond (le dmaxkm d) none_of (run_of t d amind freq)

abbrev pub search_of : Reflectrix → Float → Float → Float → Searched
search_of rfx d amind freq = search_by (rows_of rfx) rfx.dmaxkm d amind freq

-- "`fdist` 5 to 7, for any reflectrix"
abbrev pub limits_of : Float → Float → Float → List (ℕ × Bool)
limits_of ghop amind freq = (refusal_freq, freq_within freq) ∷ (refusal_amind, amind_within amind) ∷ (refusal_ghop, ghop_within ghop) ∷ []

-- "a refusal changes nothing lent or passed"
abbrev pub refused_of : HopModes → ℕ → Searched
refused_of m n = record { refusal = n; pairs = 0; rays = 0; m = m }

-- what a call returns, with the slots that are to hold it: a refusal leaves them
abbrev pub searched_by : Result Found Refusal → HopModes → Searched
searched_by (Ok f) m = found_by f.pairs f.rays f.m
searched_by (Err refusal) m = refused_of m (number_of refusal)

-- the answer, by the number of the first limit broken
abbrev pub unless_broken : ℕ → HopModes → Searched → Searched
unless_broken zero m found = found
unless_broken (suc n) m found = refused_of m (suc n)

-- 918: "Length d = ghop × 6370"; over rows and their farthest hop
unfoldable pub fdist_by : HopModes → Rows → Float → Float → Float → Float → Searched
fdist_by m t dmaxkm ghop amind freq = unless_broken (broken (limits_of ghop amind freq)) m (search_by t dmaxkm (ghop ⊗ RZ) amind freq)

-- over a reflectrix
abbrev pub fdist_of : HopModes → Reflectrix → Float → Float → Float → Searched
fdist_of m rfx ghop amind freq = fdist_by m (rows_of rfx) rfx.dmaxkm ghop amind freq
