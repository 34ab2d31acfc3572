use Rattle.std.proofs.Common.{le_antisymm}
use Rattle.findf.proofs.checks.rows_within.Goals as goal

pub returns : goal.returns
returns c = rw (le_antisymm c.loop-i-test.false c.loop-i.auto.i-end) c.loop-i.invariant
