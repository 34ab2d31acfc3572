use Rattle.fdist.specs.Pairs.{between_of}
use Rattle.fdist.proofs.pairs.between.Goals as goal

pub returns-then-abs : goal.returns-then-abs
unfolding between_of
returns-then-abs c = simp (← c.abs.ensures, c.if-abs.true)

pub returns : goal.returns
unfolding between_of
returns c = simp (← c.abs.ensures, c.if-abs.false)
