use Rattle.angles.specs.Grid.{within}
use Rattle.angles.proofs.scale.is_within.Goals as goal

pub returns-then-w-x : goal.returns-then-w-x
unfolding within
returns-then-w-x c = rw c.if-w-x.true

pub returns-else-w-x : goal.returns-else-w-x
unfolding within
returns-else-w-x c = rw c.if-w-x.false
