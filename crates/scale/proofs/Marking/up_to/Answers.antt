use Prim.Native.Nat.{ℕ, ◌+◌, ◌*◌, ◌≤◌, ◌<◌}
use mathlib.Core.Path.{◌≡◌, ap, sym, subst, ◌∙◌}
use native.Mathlib.Omega.{arith}
use native.Mathlib.Nat.{mul-le-mul, mul-le-mul_left, mul_right_comm}
use Rattle.scale.proofs.ScaleLaws.{least_small, ceiling_above, ceiling_first, ceiling_few}
use Rattle.scale.proofs.Marking.up_to.Goals as goal
use Rattle.scale.proofs.Marking.up_to.Goals.{After-div_ceil-count}

-- how many steps are asked for, and how long one is
record Counted (most top one count : ℕ) : Type 0 where
  small : one ≤ 306010000
  above : top ≤ one * count
  first : one * count < top + one
  few : count ≤ most

counted : (c : After-div_ceil-count) → Counted c.args.self.most c.args.top c.product-one.result c.div_ceil-count.result
counted c =
    let m = c.args.self in
    let top = c.args.top in
    let step = c.step_for-step.result in
    let one = c.product-one.result in
    let least = c.step_for-step.ensures.least in
    let some : 1 ≤ one = subst (λ n. 1 ≤ n) (sym c.product-one.ensures) (mul-le-mul {n₁ = 1} {m₁ = 1} (omega (arith, m.unit_bound)) c.step_for-step.ensures.result_nonzero) in
    let whole : m.unit * m.most * step ≡ one * m.most = mul_right_comm m.unit m.most step ∙ ap (λ n. n * m.most) (sym c.product-one.ensures) in
    let reaches : top ≤ one * m.most = subst (λ n. top ≤ n) whole least.reaches in
    subst (λ (n : ℕ). Counted m.most top one n) (sym c.div_ceil-count.ensures)
    record {
      small = omega (arith, least_small top (m.unit * m.most) step least, mul-le-mul m.unit_bound.1 m.most_bound.1, whole, mul-le-mul_left {m = 1} {n = m.most} one (omega (arith, m.most_bound)), c.requires);
      above = ceiling_above top one m.most some reaches;
      first = ceiling_first top one m.most some reaches;
      few = ceiling_few top one m.most some reaches;
    }

pub overflow_mul-result : goal.overflow_mul-result
overflow_mul-result c = let k = counted (goal.at.overflow_mul-result c).After-div_ceil-count in omega (arith, k.first, k.small)

pub overflow_cast-result-2 : goal.overflow_cast-result-2
overflow_cast-result-2 c = let k = counted (goal.at.overflow_cast-result-2 c).After-div_ceil-count in omega (arith, k.first, k.small)

pub returns : goal.returns
returns c =
    let k = counted (goal.at.returns c).After-div_ceil-count in
    record {
      step = c.step_for-step.ensures.least;
      end = ap (λ n. n * c.div_ceil-count.result) c.product-one.ensures;
      reaches = k.above;
      first = subst (λ n. c.product-one.result * c.div_ceil-count.result < c.args.top + n) c.product-one.ensures k.first;
      few = k.few;
    }
