use Rattle.std.proofs.Common.{arith}
use Rattle.parse.proofs.Rounding.{double, times_below}
use Rattle.parse.proofs.nearest.doubled_to.Goals as goal

pub loop-x-preserved : goal.loop-x-preserved
loop-x-preserved c = (omega arith, omega arith, double _ _ _ c.loop-x.invariant.2, omega arith)

pub returns-clause-times_bound : goal.returns-clause-times_bound
returns-clause-times_bound c = times_below _ _ _ c.requires.n_nonzero c.loop-x.invariant.2 (omega arith)
