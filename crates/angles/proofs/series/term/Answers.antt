use Rattle.std.proofs.Common.{ℕ, ◌+◌, ◌^◌, ◌<◌, ◌≤◌, sym, subst, le_of_lt, arith}
use Rattle.angles.proofs.Error.{mh_le}
use Rattle.angles.proofs.series.term.Goals as goal

sum_fits : (a b : ℕ) → a < 2 ^ 63 → b ≤ 2 ^ 63 → a + b < 2 ^ 64
sum_fits a b h k = omega arith

pub overflow_add-result : goal.overflow_add-result
overflow_add-result c =
    record { fits = sum_fits c.args.c c.high_product.result c.requires.fact_1 (subst (λ (x : ℕ). x ≤ 2 ^ 63) (sym c.high_product.ensures) (mh_le c.args.v c.args.h c.requires.fact_2 (le_of_lt c.ranges.h.fits))) }
