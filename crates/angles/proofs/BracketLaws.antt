-- The place that a search finds, as a bracket: what the test tells of the half step above a step where it holds, and of the half step after that where it fails, holds w steps below the place found
-- and w steps above it, for every w. Assumes nothing.
use Rattle.std.proofs.Common.{◌≡◌, ℕ, ◌+◌, ◌-◌, ◌*◌, ◌<◌, ◌≤◌, Bool, true, false, subst, ⊎_elim, arith}
use Rattle.angles.specs.Grid.{odd_half}
use Rattle.angles.proofs.LeastLaws.{Found}

-- of half steps: what holds below the place k, and what above, up to top steps
pub record Brackets (Below Above : ℕ → Type 0) (top w k : ℕ) : Type 0 where
  pub under : 1 ≤ w → w ≤ k → Below (2 * (k - w))
  pub over : 1 ≤ w → k + w ≤ top → Above (2 * (k + w))

module _ (p : ℕ → Bool) (top : ℕ) (Below Above : ℕ → Type 0)
    (holds : (k : ℕ) → k < top → p k ≡ true → Below (odd_half k))
    (fails : (k : ℕ) → k < top → p k ≡ false → Above (odd_half k + 1))
    (before : (a d : ℕ) → a + d ≤ 2 * top → Below (a + d) → Below a)
    (after : (a d : ℕ) → a + d ≤ 2 * top → Above a → Above (a + d)) where
  pub brackets : (w k : ℕ) → Found p top k → Brackets Below Above top w k
  brackets w k f = record { under = lower; over = upper }
    where
      none : 1 ≤ w → w ≤ k → k ≡ 0 → ⊥
      none h l e = omega arith

      past : 1 ≤ w → k + w ≤ top → k ≡ top → ⊥
      past h l e = omega arith

      earlier : k ≤ top → 1 ≤ w → w ≤ k → k - 1 < top
      earlier m h l = omega arith

      meet : 1 ≤ w → w ≤ k → odd_half (k - 1) ≡ 2 * (k - w) + (2 * w - 1)
      meet h l = omega arith

      room : k ≤ top → 1 ≤ w → w ≤ k → 2 * (k - w) + (2 * w - 1) ≤ 2 * top
      room m h l = omega arith

      small : 1 ≤ w → k + w ≤ top → k < top
      small h l = omega arith

      meet_up : 1 ≤ w → odd_half k + 1 + (2 * w - 2) ≡ 2 * (k + w)
      meet_up h = omega arith

      room_up : 1 ≤ w → k + w ≤ top → odd_half k + 1 + (2 * w - 2) ≤ 2 * top
      room_up h l = omega arith

      lower : 1 ≤ w → w ≤ k → Below (2 * (k - w))
      lower h l = ⊎_elim
          (λ (e : k ≡ 0). absurd (none h l e))
          (λ (e : p (k - 1) ≡ true). before (2 * (k - w)) (2 * w - 1) (room f.within h l) (subst Below (meet h l) (holds (k - 1) (earlier f.within h l) e)))
          f.holds_before

      upper : 1 ≤ w → k + w ≤ top → Above (2 * (k + w))
      upper h l = ⊎_elim
          (λ (e : k ≡ top). absurd (past h l e))
          (λ (e : p k ≡ false). subst Above (meet_up h) (after (odd_half k + 1) (2 * w - 2) (room_up h l) (fails k (small h l) e)))
          f.fails_here
