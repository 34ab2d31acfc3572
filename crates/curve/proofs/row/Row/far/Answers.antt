use Rattle.curve.specs.Rows.{far_of}
use Rattle.curve.proofs.row.Row.far.Goals as goal

pub returns-then-drawn : goal.returns-then-drawn
unfolding far_of
returns-then-drawn c = rw (← c.drawn.ensures, c.if-drawn.true) c.hop.ensures

pub returns-else-drawn : goal.returns-else-drawn
unfolding far_of
returns-else-drawn c = rw (← c.drawn.ensures, c.if-drawn.false)
