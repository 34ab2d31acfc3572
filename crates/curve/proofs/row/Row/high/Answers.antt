use borrow.Author.Tests.{lt-ltb, le-ltb}
use Rattle.curve.specs.Rows.{high_of}
use Rattle.curve.proofs.row.Row.high.Goals as goal

pub returns-then-self-rows : goal.returns-then-self-rows
unfolding high_of
returns-then-self-rows c = rw (← c.rows.ensures.value, lt-ltb _ _ c.if-self-rows.true) c.angle.ensures

pub returns-else-self-rows : goal.returns-else-self-rows
unfolding high_of
returns-else-self-rows c = rw (← c.rows.ensures.value, le-ltb _ _ c.if-self-rows.false)
