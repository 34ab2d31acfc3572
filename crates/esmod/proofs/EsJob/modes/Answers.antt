use Rattle.esmod.specs.Esmod.{modes_of}
use Rattle.esmod.proofs.EsJob.modes.Goals as goal

pub returns-then-self : goal.returns-then-self
unfolding modes_of
returns-then-self c = simp (c.no_hops.ensures, c.if-self.true)

pub returns-then-fs : goal.returns-then-fs
unfolding modes_of
returns-then-fs c = simp (c.no_hops-then-fs.ensures, c.if-self.false, c.if-fs.true)

pub returns : goal.returns
unfolding modes_of
returns c = simp (c.hops.ensures, c.if-self.false, c.if-fs.false)
