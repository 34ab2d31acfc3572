use Rattle.fdist.specs.Pairs.{pair_of}
use Rattle.fdist.proofs.pairs.try_pair.Goals as goal

pub returns-then-g1-g2 : goal.returns-then-g1-g2
unfolding pair_of
returns-then-g1-g2 c = simp (c.if-g1-g2.true, ← c.rising.ensures)

pub returns-then-g1-g2-2 : goal.returns-then-g1-g2-2
unfolding pair_of
returns-then-g1-g2-2 c = simp (c.if-g1-g2.false, c.if-g1-g2-2.true, ← c.equal.ensures)

pub returns : goal.returns
unfolding pair_of
returns c = simp (c.if-g1-g2.false, c.if-g1-g2-2.false, ← c.falling.ensures)
