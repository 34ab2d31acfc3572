-- The least number at which a test fails. Its laws are in LeastLaws.
use Rattle.std.specs.Prelude.{ℕ, zero, suc, ◌+◌, Bool, cond}

-- the first of k, k + 1, .. at which p fails, or k + n if it fails at none before
unfoldable pub first : (ℕ → Bool) → ℕ → ℕ → ℕ
first p zero k = k
first p (suc n) k = cond (p k) (first p n (k + 1)) k

-- the least k below top at which p fails, or top
unfoldable pub least : (ℕ → Bool) → ℕ → ℕ
unfolding first
least p top = first p top 0
