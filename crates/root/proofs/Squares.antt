-- For `nearest_root` and `lower`: squares that fit, and a step up or down to the whole number nearest to a root. Assumes nothing.
use Prim.Native.Nat.{ℕ, zero, suc, ◌+◌, ◌-◌, ◌*◌, ◌^◌, ◌≤◌, ◌<◌}
use native.Mathlib.Nat.{lt_of_le_of_lt, mul-le-mul, zero-mul}
use native.Mathlib.Omega.{arith}
use native.Mathlib.Decide.{dec_le}
use lib.Dec.{lit<}
use Rattle.root.proofs.NearestRootLaws.{square_next}

pub square_fits : (r : ℕ) → r < 2 ^ 25 → r * r < 2 ^ 50
square_fits r h = lt_of_le_of_lt (mul-le-mul (below h) (below h)) (lit< tt)
  where
    below : r < 2 ^ 25 → r ≤ 2 ^ 25 - 1
    below h = omega arith

-- (r - 1/2)² is above w only for an r above 0
pub root_positive : (w r : ℕ) → 0 < w → w + r ≤ r * r → 0 < r
root_positive w zero p h = omega (arith, zero-mul zero)
root_positive w (suc r) p h = omega arith

-- where (r + 1/2)² is below a w of 48 digits, r has 24
pub root_short : (w r : ℕ) → w < 2 ^ 48 → r * r + r < w → r < 2 ^ 24
root_short w r h k = go (dec_le (2 ^ 24) r)
  where
    flip : (2 ^ 24 ≤ r → ⊥) → r < 2 ^ 24
    flip f = omega arith

    clash : (a : ℕ) → 2 ^ 48 ≤ a → a + r < w → ⊥
    clash a l m = omega arith

    go : Dec (2 ^ 24 ≤ r) → r < 2 ^ 24
    go (yes g) = absurd (clash (r * r) (mul-le-mul g g) k)
    go (no f) = flip f

-- and (r + 1 - 1/2)² is the same number
pub step_up : (w r : ℕ) → r * r + r < w → (r + 1) * (r + 1) < w + (r + 1)
step_up w r h = omega (arith, square_next r)
