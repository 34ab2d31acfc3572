use Rattle.fdist.specs.Pairs.{equal_of}
use Rattle.fdist.proofs.pairs.equal.Goals as goal

pub returns-then-abs : goal.returns-then-abs
unfolding equal_of
returns-then-abs c = simp (← c.abs.ensures, c.if-abs.true)

pub returns : goal.returns
unfolding equal_of
returns c = simp (← c.abs.ensures, c.if-abs.false)
