use Rattle.std.proofs.Common.{◌≡◌, ℕ, ◌*◌, ◌^◌, ◌≤◌, sym, subst, lt_of_le_of_lt, lit<}
use Rattle.angles.specs.Series.{cube, power}
use Rattle.angles.proofs.Near.{power_le, cube_le}
use Rattle.angles.proofs.series.powers_at.Goals as goal
use Rattle.angles.proofs.series.powers_at.Goals.{After-high_product, After-high_product-2}

third_is : (c : After-high_product) → c.high_product.result * 4 ≡ cube c.args.n
third_is c = cc

fourth_is : (c : After-high_product-2) → c.high_product-2.result * 8 ≡ power c.args.n
fourth_is c = cc

fourth_le : (c : After-high_product-2) → c.high_product-2.result * 8 ≤ 2 ^ 63
fourth_le c = subst (λ (v : ℕ). v ≤ 2 ^ 63) (sym (fourth_is c)) (power_le c.args.n c.requires)

pub overflow_mul-result : goal.overflow_mul-result
overflow_mul-result c = record { fits = lt_of_le_of_lt (subst (λ (v : ℕ). v ≤ 2 ^ 63) (sym (third_is (goal.at.overflow_mul-result c).After-high_product)) (cube_le c.args.n c.requires)) (lit< tt) }

pub overflow_mul-result-2 : goal.overflow_mul-result-2
overflow_mul-result-2 c = record { fits = lt_of_le_of_lt (fourth_le (goal.at.overflow_mul-result-2 c).After-high_product-2) (lit< tt) }

pub invariant_of-result : goal.invariant_of-result
invariant_of-result c = record { fourth_bound = fourth_le (goal.at.invariant_of-result c).After-high_product-2 }

pub returns : goal.returns
returns c = (c.high_product-z.ensures, (third_is (goal.at.returns c).After-high_product, fourth_is (goal.at.returns c).After-high_product-2))
