use Rattle.fdist.specs.Pairs.{rising_of}
use Rattle.fdist.proofs.pairs.rising.Goals as goal

pub returns-then-d-g2 : goal.returns-then-d-g2
unfolding rising_of
returns-then-d-g2 c = simp (c.if-g1-d.true, c.if-d-g2.true, ← c.between.ensures)

pub returns-then-d-g2-2 : goal.returns-then-d-g2-2
unfolding rising_of
returns-then-d-g2-2 c = simp (c.if-g1-d.true, c.if-d-g2.false, c.if-d-g2-2.true)

pub returns-then-g1-d : goal.returns-then-g1-d
unfolding rising_of
returns-then-g1-d c = simp (c.if-g1-d.true, c.if-d-g2.false, c.if-d-g2-2.false)

pub returns-then-g1-d-2 : goal.returns-then-g1-d-2
unfolding rising_of
returns-then-g1-d-2 c = simp (c.if-g1-d.false, c.if-g1-d-2.true)

pub returns : goal.returns
unfolding rising_of
returns c = simp (c.if-g1-d.false, c.if-g1-d-2.false)
