use Rattle.sigdis.specs.Prbmuf.{chance_of}
use Rattle.sigdis.proofs.chance.Goals as goal

pub returns-then-z : goal.returns-then-z
unfolding chance_of
returns-then-z c = simp (c.if-fset.true, c.if-z.true)

pub returns-else-z : goal.returns-else-z
unfolding chance_of
returns-else-z c = simp (c.if-fset.true, c.if-z.false)

pub returns-else-fset : goal.returns-else-fset
unfolding chance_of
returns-else-fset c = simp c.if-fset.false (cc)
