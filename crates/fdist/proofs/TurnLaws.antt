-- Laws of the search: the ways that a turn goes (`turn_ways`), and that each turn leaves fewer pairs (`turn_falls`). Assumes nothing.
use Prim.Native.Nat.{ℕ, suc, ◌+◌, ◌-◌, ◌≤◌, ◌<◌}
use mathlib.Core.Path.{◌≡◌, refl}
use mathlib.Core.Bool.{Bool, true, false}
use mathlib.Core.Logic.{◌⊎◌, inl, inr}
use native.Mathlib.Omega.{arith}
use lib.Dec.{leb}
use lib.Ieee.{Float, le}
use borrow.Author.Tests.{lt-leb, leb-true, leb-false}
use Rattle.arith.specs.Run.{Next, more, done}
use Rattle.arith.proofs.RunLaws.{Lessens}
use Rattle.fdist.specs.declared.Searched.{Searched}
use Rattle.fdist.specs.declared.pairs.Pair.{Pair}
use Rattle.fdist.specs.declared.rays.Ray.{Ray}
use Rattle.std.specs.Prelude.{Option, Some, None}
use Rattle.fdist.specs.Pairs.{next_of}
use Rattle.fdist.proofs.PairLaws.{next_bounds}
use Rattle.fdist.specs.Rays.{given_of}
use Rattle.fdist.specs.Fdist.{Rows, pair_at, Search, found_of, passed, accepted, lowered, place_by, after_of, low, turn_by, turn_of}
use Rattle.fdist.specs.Demand.{ray_of}

module _ (t : Rows) (d amind freq : Float) (s : Search) where
  pub turn_tries : {p : Pair} {next : ℕ} {g : Option Ray} → s.at < 44 → low t s.at ≡ false
      → p ≡ pair_at t d s.at → next ≡ next_of s.at p → given_of t.row d freq s.at p ≡ g
      → turn_of t d amind freq s ≡ after_of amind s next g
  unfolding turn_of turn_by
  turn_tries h high p n g = rw (lt-leb 44 s.at h, high, ← p, ← n, g)

-- the pair after pair i
abbrev pub next_at : Rows → Float → ℕ → ℕ
next_at t d i = next_of i (pair_at t d i)

pub next_at_lem : (t : Rows) (d : Float) (i : ℕ) → (i + 1 ≤ next_at t d i) × (next_at t d i ≤ i + 2)
next_at_lem t d i = next_bounds i (t.gd i) (t.gd (i + 1)) d refl refl

-- a turn from s that tries its pair
pub record Tried (t : Rows) (s : Search) : Type 0 where
  pub room : s.at < 44
  pub high : low t s.at ≡ false

-- C of a turn from s, if it holds whichever way the turn goes
pub record Ways (t : Rows) (d amind freq : Float) (s : Search) (C : Next Search Searched → Type 0) : Type 0 where
  pub ends : (44 ≤ s.at) ⊎ (low t s.at ≡ true) → C (done (found_of s))
  pub passes : Tried t s → ray_of t d freq s.at ≡ None → C (more (passed s (next_at t d s.at)))
  pub sixth : (r : Ray) → Tried t s → ray_of t d freq s.at ≡ Some r → le amind r.del ≡ true → 6 ≤ s.rays + 1
      → C (done (found_of (accepted s (next_at t d s.at) r)))
  pub accepts : (r : Ray) → Tried t s → ray_of t d freq s.at ≡ Some r → le amind r.del ≡ true → s.rays + 1 < 6
      → C (more (accepted s (next_at t d s.at) r))
  pub lowers : (r : Ray) → Tried t s → ray_of t d freq s.at ≡ Some r → le amind r.del ≡ false
      → C (more (lowered s (next_at t d s.at) r))

module _ (t : Rows) (d amind freq : Float) (s : Search) (C : Next Search Searched → Type 0) (w : Ways t d amind freq s C) where
  place_ways : (r : Ray) → Tried t s → ray_of t d freq s.at ≡ Some r → (reached sixth : Bool) → le amind r.del ≡ reached → leb 6 (s.rays + 1) ≡ sixth
      → C (place_by reached sixth s (next_at t d s.at) r)
  unfolding place_by
  place_ways r h e true true a b = w.sixth r h e a (leb-true 6 (s.rays + 1) b)
  place_ways r h e true false a b = w.accepts r h e a (leb-false 6 (s.rays + 1) b)
  place_ways r h e false sixth a b = w.lowers r h e a

  after_ways : Tried t s → (g : Option Ray) → ray_of t d freq s.at ≡ g → C (after_of amind s (next_at t d s.at) g)
  unfolding after_of
  after_ways h None e = w.passes h e
  after_ways h (Some r) e = place_ways r h e (le amind r.del) (leb 6 (s.rays + 1)) refl refl

  by_ways : (last below : Bool) → leb 44 s.at ≡ last → low t s.at ≡ below → C (turn_by last below t d amind freq s (pair_at t d s.at))
  unfolding turn_by
  by_ways true below a b = w.ends (inl (leb-true 44 s.at a))
  by_ways false true a b = w.ends (inr b)
  by_ways false false a b = after_ways (record { room = leb-false 44 s.at a; high = b }) (ray_of t d freq s.at) refl

  pub turn_ways : C (turn_of t d amind freq s)
  unfolding turn_of
  turn_ways = by_ways (leb 44 s.at) (low t s.at) refl refl

-- the turns that are left at most
abbrev pub left : Search → ℕ
left s = suc (44 - s.at)

pub turn_falls : (t : Rows) (d amind freq : Float) (s : Search) → Unit {0} → Lessens (λ (_ : Search). Unit {0}) left (left s) (turn_of t d amind freq s)
turn_falls t d amind freq s _ =
    let n = next_at_lem t d s.at in turn_ways t d amind freq s (Lessens (λ (_ : Search). Unit {0}) left (left s)) (record {
      ends = λ _. tt;
      passes = λ h e. (tt, omega (arith, h.room));
      sixth = λ r h e a k. tt;
      accepts = λ r h e a k. (tt, omega (arith, h.room));
      lowers = λ r h e a. (tt, omega (arith, h.room));
    })
