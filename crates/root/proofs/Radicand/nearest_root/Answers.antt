use Prim.Native.Nat.{◌^◌, ◌<◌}
use native.Mathlib.Omega.{arith}
use Rattle.root.specs.Root.{nearest_root}
use Rattle.root.proofs.NearestRootLaws.{nearest_root_lem, nearest_unique}
use Rattle.root.proofs.Squares.{square_fits, root_short, step_up}
use Rattle.root.proofs.Radicand.nearest_root.Goals as goal
use Rattle.root.proofs.Radicand.nearest_root.Goals.{In-loop-r}

-- in the loop r has 24 digits
short : (c : In-loop-r) → c.loop-r.r < 2 ^ 24
short c = root_short c.args.self.w c.loop-r.r c.args.self.digits c.loop-r-test.true

pub overflow_mul-r : goal.overflow_mul-r
overflow_mul-r c = omega (arith, square_fits c.loop-r.r c.loop-r.invariant.1)

pub overflow_add-r : goal.overflow_add-r
overflow_add-r c = omega (arith, square_fits c.loop-r.r c.loop-r.invariant.1)

pub overflow_add-r-in-loop-r : goal.overflow_add-r-in-loop-r
overflow_add-r-in-loop-r c = omega arith

pub loop-r-smaller : goal.loop-r-smaller
loop-r-smaller c = omega (arith, short (goal.at.loop-r-smaller c).In-loop-r)

pub loop-r-preserved : goal.loop-r-preserved
loop-r-preserved c = (step_up c.args.self.w c.loop-r.r c.loop-r-test.true, omega (arith, short (goal.at.loop-r-preserved c).In-loop-r))

pub returns : goal.returns
returns c =
    let w = c.args.self.w in
    nearest_unique w c.loop-r.r (nearest_root w)
    (record { not_below = c.loop-r.invariant.0; not_above = c.loop-r-test.false })
    (nearest_root_lem w c.args.self.above_zero c.args.self.digits)
