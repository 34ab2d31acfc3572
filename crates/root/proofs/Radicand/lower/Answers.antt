use Prim.Native.Nat.{◌<◌}
use native.Mathlib.Omega.{arith}
use Rattle.root.proofs.Squares.{square_fits, root_positive}
use Rattle.root.proofs.Radicand.lower.Goals as goal
use Rattle.root.proofs.Radicand.lower.Goals.{In-loop-r}

-- in the loop r is above 0
positive : (c : In-loop-r) → 0 < c.loop-r.r
positive c = root_positive c.args.self.w c.loop-r.r c.args.self.above_zero c.loop-r-test.true

pub overflow_mul-r : goal.overflow_mul-r
overflow_mul-r c = omega (arith, square_fits c.loop-r.r c.loop-r.invariant)

pub overflow_sub-r : goal.overflow_sub-r
overflow_sub-r c = positive (goal.at.overflow_sub-r c).In-loop-r

pub loop-r-smaller : goal.loop-r-smaller
loop-r-smaller c = omega (arith, positive (goal.at.loop-r-smaller c).In-loop-r)

pub loop-r-preserved : goal.loop-r-preserved
loop-r-preserved c = omega arith
