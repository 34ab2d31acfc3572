use Rattle.rounding.proofs.DecimalsLaws.{size_small, signed_above, signed_zero, signed_below, columns_bare, columns_minus}
use native.Mathlib.Nat.{div-le_self}
use native.Mathlib.Omega.{arith}
use Prim.Native.Nat.{◌/◌, ◌+◌, ◌≤◌, min}
use Rattle.rounding.proofs.columns.Goals as goal
use Rattle.rounding.proofs.columns.Goals.{After-point, else-below-via-then-below+else-n-gt0, else-below-via-else-below}

few : (c : After-point) → c.size.result + c.point.result ≤ c.args.n / 10 + 6
few c =
    let small = size_small (c.args.n / c.power.result) in
    let less = div-le_self c.args.n c.power.result in
    omega (arith, c.size.ensures, c.point.ensures.upper_bound)

pub overflow_add-all : goal.overflow_add-all
overflow_add-all c = let h = few (goal.at.overflow_add-all c).After-point in omega arith

pub overflow_add-result : goal.overflow_add-result
overflow_add-result c = let h = few (goal.at.overflow_add-result c).After-point in omega arith

pub returns-then-n-gt0 : goal.returns-then-n-gt0
returns-then-n-gt0 c =
    let a = c.args in
    columns_minus a.below (min a.places 3) a.n c.power.ensures.value c.size.ensures c.point.ensures.value (signed_below a.below (min a.places 3) a.n c.if-below.true c.if-n-gt0.true)

pub returns-else-below : goal.returns-else-below
returns-else-below c =
    let a = c.args in
    columns_bare a.below (min a.places 3) a.n c.power.ensures.value c.size.ensures c.point.ensures.value
    (elim c.else-below.branch [
      | else-below-via-then-below+else-n-gt0 w ↦ signed_zero a.below (min a.places 3) a.n (omega (arith, w.if-n-gt0.false))
      | else-below-via-else-below w ↦ signed_above a.below (min a.places 3) a.n w.if-below.false
    ])
