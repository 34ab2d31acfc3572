use Rattle.findf.specs.Rows.{skip_of}
use Rattle.findf.proofs.skip.skip_of.Goals as goal

pub returns-then-s-t : goal.returns-then-s-t
unfolding skip_of
returns-then-s-t c = simp c.if-s-t.true

pub returns : goal.returns
unfolding skip_of
returns c = simp c.if-s-t.false
