use Rattle.sigdis.specs.Prbmuf.{side_of}
use Rattle.sigdis.proofs.side.Goals as goal

pub returns-then-z : goal.returns-then-z
unfolding side_of
returns-then-z c = simp c.if-z.true (cc)

pub returns-else-z : goal.returns-else-z
unfolding side_of
returns-else-z c = simp c.if-z.false (cc)
