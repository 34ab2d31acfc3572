use borrow.Author.Tests.{lt-ltb, le-ltb}
use Rattle.crossing.specs.Crossing.{crossed_at}
use Rattle.crossing.proofs.crossed.Goals as goal

pub returns-then-i-lt-COLUMN_ROWS : goal.returns-then-i-lt-COLUMN_ROWS
unfolding crossed_at
returns-then-i-lt-COLUMN_ROWS c = rw (lt-ltb _ _ c.if-i-lt-COLUMN_ROWS.true, ← c.is_cusp.ensures, ← c.is_after_cusp.ensures, ← c.spot.ensures)

pub returns : goal.returns
unfolding crossed_at
returns c = rw (le-ltb _ _ c.if-i-lt-COLUMN_ROWS.false)
