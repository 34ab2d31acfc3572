-- The words of demand 3 about the search (document 01, "The words of demand 3"), by the rule on two rows and d. Rows, pairs and slots count from 0.
use Rattle.std.specs.Prelude.{ℕ, zero, suc, ◌+◌, Bool, true, false, cond, not, ◌&&◌, ◌||◌, ◌≡◌, eqb, Option, Some, None, get_or, Float}
use Rattle.std.specs.Float.{nan}
use Rattle.std.specs.Float.Ieee.{lt, le}
use Rattle.arith.specs.Floats.{◌⊗◌, RZ}
use Rattle.arith.specs.Run.{count}
use Rattle.findf.specs.declared.Reflectrix.{Reflectrix}
use Rattle.fdist.specs.declared.HopModes.{HopModes}
use Rattle.fdist.specs.declared.pairs.Pair.{Pair}
use Rattle.fdist.specs.declared.pairs.Pair.TheVariants.{Nothing, Row, Spot}
use Rattle.fdist.specs.declared.rays.Ray.{Ray}
use Rattle.fdist.specs.Rays.{given_of}
use Rattle.fdist.specs.Fdist.{Rows, rows_of, pair_at, Search, start, beyond, low, turn_of, turns}

-- "The ray of rows r and r + 1, r from 1 to 44, is the row or spot that those two and d give by the source's rule."
abbrev pub ray_of : Rows → Float → Float → ℕ → Option Ray
ray_of t d freq i = given_of t.row d freq i (pair_at t d i)

-- "two neighbouring rows whose hop lengths lie strictly on either side of the asked one"
abbrev pub straddles : Float → Float → Float → Bool
straddles g1 g2 d = (lt g1 d && lt d g2) || (lt g2 d && lt d g1)

-- whether two rows give a row or a spot
abbrev pub gives : Option Ray → Bool
gives None = false
gives (Some r) = true

-- "It reaches the minimum angle where its angle is ≥ amind; NaN never is."
abbrev pub reaches : Float → Option Ray → Bool
reaches amind None = false
reaches amind (Some r) = le amind r.del

-- "gives its second row as it is"
abbrev pub gives_second : ℕ → Pair → Bool
gives_second i Nothing = false
gives_second i (Row k) = eqb k (i + 1)
gives_second i (Spot dth dth2) = false

-- "A pair is jumped if the pair just before it is not jumped and gives its second row as it is."
unfoldable pub jumped : Rows → Float → ℕ → Bool
jumped t d zero = false
jumped t d (suc i) = not (jumped t d i) && gives_second i (pair_at t d i)

-- "The rays that came before are those of lower pairs, jumped ones apart, that reach the minimum angle.": how many, below pair i
unfoldable pub before : Rows → Float → Float → Float → ℕ → ℕ
before t d amind freq zero = 0
before t d amind freq (suc i) = before t d amind freq i + cond (not (jumped t d i) && reaches amind (ray_of t d freq i)) 1 0

-- what slot n holds
abbrev pub slot_of : HopModes → ℕ → Ray
slot_of m n = record {
  del = get_or m.delmod n nan;
  hp = get_or m.hpmod n nan;
  ht = get_or m.htmod n nan;
  fv = get_or m.fvmod n nan;
  af = get_or m.afmod n nan;
  layer = get_or m.itmod n 0;
}

-- "then their ray stands in the answer": slot n of m holds the ray of a pair, unaltered
abbrev pub stands : Option Ray → HopModes → ℕ → Type 0
stands g m n = g ≡ Some (slot_of m n)

-- "A pair is tried when its two hop lengths are compared": 1 for a turn that does so, 0 for one that ends before
abbrev pub tries_of : Rows → Search → ℕ
tries_of t s = cond (beyond s.at || low t s.at) 0 1

-- "Accepted slots are the rays": 1 for a turn that accepts one
abbrev pub accepts_of : Rows → Float → Float → Float → Search → ℕ
accepts_of t d amind freq s = cond (reaches amind (ray_of t d freq s.at)) (tries_of t s) 0

-- a number summed over the turns of the search for ghop; where d is not below the farthest hop it takes none
abbrev pub count_of : Reflectrix → Float → Float → Float → (Search → ℕ) → ℕ
count_of rfx ghop amind freq c = cond (le rfx.dmaxkm (ghop ⊗ RZ)) 0 (count (turn_of (rows_of rfx) (ghop ⊗ RZ) amind freq) c turns start)
