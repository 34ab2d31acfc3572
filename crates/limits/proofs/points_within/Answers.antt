use Rattle.std.proofs.Common.{rules, ◌≡◌, refl, ℕ, zero, suc, ◌<◌, Bool, true, false, ◌&&◌, List, [], length, get_or, arith, ◌∙◌}
use Rattle.std.specs.Prelude.{MatchBool, Float}
use Rattle.std.specs.Float.{nan}
use Rattle.std.specs.List.{AllWithin, HoldsAt, range_with_len}
use Rattle.std.proofs.lemmas.Iterator.{cases_from_all, YieldsList-from_range}
use Rattle.std.proofs.lemmas.List.FromFn.{length-range_with_len, get_or-range_with_len}
use mathlib.Core.Bool.{and-false}
use mathlib.Core.Logic.{◌⊎◌, inl, inr}
use native.Mathlib.Nat.{eq-or-lt_of_le, zero-add}
use Rattle.limits.specs.Limits.{point_within, points_within}
use Rattle.limits.proofs.points_within.Goals as goal

module _ (fs : List (List Float)) (hs : List Float) where
  abbrev tested : ℕ → Bool
  tested i = point_within (get_or fs i []) (get_or hs i nan)

  all_hold : (n : ℕ) → ((k : ℕ) → k < n → tested k ≡ true) → true ≡ points_within fs hs n
  unfolding points_within
  all_hold zero h = refl
  all_hold (suc n) h = rw (← all_hold n (λ k l. h k (omega arith)), h n (omega arith)) refl

  one_fails : (n k : ℕ) → k < n → tested k ≡ false → false ≡ points_within fs hs n
  unfolding points_within
  one_fails zero k l h = absurd (omega arith)
  one_fails (suc n) k l h = go (eq-or-lt_of_le (omega arith)) (one_fails n k)
    where
      go : (k ≡ n) ⊎ (k < n) → (k < n → tested k ≡ false → false ≡ points_within fs hs n) → false ≡ (points_within fs hs n && tested n)
      go (inl e) f = rw (← e, h, and-false) refl
      go (inr m) f = rw (← f m h) refl

  at_index : (n k : ℕ) → k < n → get_or (range_with_len 0 n) k 0 ≡ k
  at_index n k l = get_or-range_with_len 0 n k 0 l ∙ zero-add k

  decided : (n : ℕ) (r : Bool) → MatchBool r (AllWithin (λ k. tested k ≡ true) (range_with_len 0 n) 0 (length (range_with_len 0 n))) ((k : ℕ) × (k < length (range_with_len 0 n)) × HoldsAt (λ k. tested k ≡ false) (range_with_len 0 n) k) → r ≡ points_within fs hs n
  decided n true h = all_hold n (λ k l. rw (at_index n k l) at (h k 0 (omega arith) (rw (length-range_with_len 0 n) l)))
  decided n false (k, l, h) = let m : k < n = rw (length-range_with_len 0 n) at l in one_fails n k m (rw (at_index n k m) at (h 0))

pub returns : goal.returns
returns c =
    let fs = c.args.fs.now in
    let hs = c.args.hs.now in
    decided fs hs c.args.km c.all.result (cases_from_all _ _ _ (λ i. tested fs hs i ≡ true) (λ i. tested fs hs i ≡ false) c.all.ensures.ran (YieldsList-from_range 0 c.args.km c.args.km refl (omega arith)) (λ x q k. search rules) (λ x q k. search rules))
