-- The search reads no layer. `layers_unread`: with other layers in the rows it tries the same pairs and leaves the same rays in the same slots, but for their layers. Assumes nothing.
use Prim.Native.Nat.{ℕ, zero, suc, ◌+◌}
use mathlib.Core.Path.{◌≡◌, refl, ap, ◌∙◌}
use mathlib.Core.Bool.{Bool, true, false, cond}
use mathlib.Core.List.{List, []}
use lib.ListN.{get_or, set}
use lib.Ieee.{Float, le}
use Rattle.arith.specs.Floats.{◌⊗◌, RZ}
use Rattle.arith.specs.Run.{Next, more, done, onward, run}
use Rattle.limits.specs.Limits.{broken}
use Rattle.findf.specs.declared.Reflectrix.{Reflectrix}
use Rattle.fdist.specs.declared.HopModes.{HopModes}
use Rattle.fdist.specs.declared.Searched.{Searched}
use Rattle.fdist.specs.declared.pairs.Pair.{Pair}
use Rattle.fdist.specs.declared.pairs.Pair.TheVariants.{Nothing, Row, Spot}
use Rattle.fdist.specs.declared.rays.Ray.{Ray}
use Rattle.fdist.specs.Pairs.{next_of}
use Rattle.fdist.specs.Rays.{spot_of}
use Rattle.fdist.specs.Fdist.{Rows, rows_of, Search, start, none_of, place_by, after_of, pair_at, beyond, low, turn_by, turn_of, turns, run_of, search_by, limits_of, unless_broken, fdist_by, fdist_of}

-- a ray, rows, slots, a search on its way and an answer with other layers
abbrev relayer : Ray → ℕ → Ray
relayer r l = record { del = r.del; hp = r.hp; ht = r.ht; fv = r.fv; af = r.af; layer = l }

abbrev with_layers : Rows → List ℕ → Rows
with_layers t ls = record { row = λ i. relayer (t.row i) (get_or ls i 0); gd = t.gd }

abbrev slots_with : HopModes → List ℕ → HopModes
slots_with m ls = record { delmod = m.delmod; hpmod = m.hpmod; htmod = m.htmod; fvmod = m.fvmod; itmod = ls; afmod = m.afmod }

abbrev search_with : Search → List ℕ → Search
search_with s ls = record { at = s.at; pairs = s.pairs; rays = s.rays; m = slots_with s.m ls }

abbrev pub found_with : Searched → List ℕ → Searched
found_with a ls = record { refusal = a.refusal; pairs = a.pairs; rays = a.rays; m = slots_with a.m ls }

abbrev next_with : Next Search Searched → List ℕ → Next Search Searched
next_with (more s) ls = more (search_with s ls)
next_with (done a) ls = done (found_with a ls)

place_unread : (high sixth : Bool) (s : Search) (next : ℕ) (r : Ray) (ls : List ℕ) (l : ℕ)
    → place_by high sixth (search_with s ls) next (relayer r l) ≡ next_with (place_by high sixth s next r) (set ls s.rays l)
unfolding place_by
place_unread true true s next r ls l = refl
place_unread true false s next r ls l = refl
place_unread false sixth s next r ls l = refl

module _ (t : Rows) (ks : List ℕ) (d amind freq : Float) where
  -- the slots' layers after a turn
  abbrev layers_by : Bool → Bool → Search → List ℕ → Pair → List ℕ
  layers_by true low s ls p = ls
  layers_by false true s ls p = ls
  layers_by false false s ls Nothing = ls
  layers_by false false s ls (Row k) = set ls s.rays (get_or ks k 0)
  layers_by false false s ls (Spot dth dth2) = set ls s.rays (get_or ks s.at 0)

  turn_by_lem : (b l : Bool) (s : Search) (ls : List ℕ) (p : Pair)
      → turn_by b l (with_layers t ks) d amind freq (search_with s ls) p ≡ next_with (turn_by b l t d amind freq s p) (layers_by b l s ls p)
  unfolding turn_by after_of spot_of
  turn_by_lem true l s ls p = refl
  turn_by_lem false true s ls p = refl
  turn_by_lem false false s ls Nothing = refl
  turn_by_lem false false s ls (Row k) = place_unread _ _ s (next_of s.at (Row k)) (t.row k) ls (get_or ks k 0)
  turn_by_lem false false s ls (Spot dth dth2) =
      place_unread _ _ s (next_of s.at (Spot dth dth2)) (spot_of (t.row s.at) (t.row (s.at + 1)) dth dth2 d freq) ls (get_or ks s.at 0)

  run_on : (n : ℕ) (g : (s : Search) (ls : List ℕ) → found_with (run (turn_of (with_layers t ks) d amind freq) none_of n (search_with s ls)) [] ≡ found_with (run (turn_of t d amind freq) none_of n s) [])
      (x : Next Search Searched) (ls : List ℕ)
      → found_with (onward (run (turn_of (with_layers t ks) d amind freq) none_of n) (next_with x ls)) [] ≡ found_with (onward (run (turn_of t d amind freq) none_of n) x) []
  run_on n g (more s) ls = g s ls
  run_on n g (done a) ls = refl

  run_unread : (n : ℕ) (s : Search) (ls : List ℕ)
      → found_with (run (turn_of (with_layers t ks) d amind freq) none_of n (search_with s ls)) [] ≡ found_with (run (turn_of t d amind freq) none_of n s) []
  unfolding run turn_of
  run_unread zero s ls = refl
  run_unread (suc n) s ls =
      let p = pair_at t d s.at in
      ap (λ (x : Next Search Searched). found_with (onward (run (turn_of (with_layers t ks) d amind freq) none_of n) x) []) (turn_by_lem (beyond s.at) (low t s.at) s ls p)
      ∙ run_on n (run_unread n) (turn_of t d amind freq s) (layers_by (beyond s.at) (low t s.at) s ls p)

  search_by_lem : (b : Bool) → found_with (cond b none_of (run_of (with_layers t ks) d amind freq)) [] ≡ found_with (cond b none_of (run_of t d amind freq)) []
  unfolding run_of
  search_by_lem true = refl
  search_by_lem false = run_unread turns start start.m.itmod

unless_by : (n : ℕ) (m : HopModes) (a b : Searched) → found_with a [] ≡ found_with b [] → found_with (unless_broken n m a) [] ≡ found_with (unless_broken n m b) []
unless_by zero m a b e = e
unless_by (suc n) m a b e = refl

-- the same but for the layers
pub layers_unread : (m : HopModes) (rfx : Reflectrix) (ks : List ℕ) (ghop amind freq : Float)
    → found_with (fdist_of m (record rfx { imode = ks }) ghop amind freq) [] ≡ found_with (fdist_of m rfx ghop amind freq) []
unfolding fdist_by search_by
layers_unread m rfx ks ghop amind freq =
    unless_by (broken (limits_of ghop amind freq)) m _ _ (search_by_lem (rows_of rfx) ks (ghop ⊗ RZ) amind freq (le rfx.dmaxkm (ghop ⊗ RZ)))
