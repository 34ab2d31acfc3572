use Rattle.sigdis.specs.Prbmuf.{spread_of}
use Rattle.sigdis.proofs.spread.Goals as goal

pub returns-then-z : goal.returns-then-z
unfolding spread_of
returns-then-z c = simp c.if-z.true (cc)

pub returns-else-z : goal.returns-else-z
unfolding spread_of
returns-else-z c = simp c.if-z.false (cc)
