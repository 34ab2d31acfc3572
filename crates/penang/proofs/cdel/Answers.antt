use Rattle.penang.specs.Penang.{cdel_of}
use Rattle.penang.proofs.cdel.Goals as goal

pub returns-then-xm30-xm28 : goal.returns-then-xm30-xm28
unfolding cdel_of
returns-then-xm30-xm28 c = simp (c.if-xm30-xm29.true, c.if-xm30-xm28.true)

pub returns-else-xm30-xm28 : goal.returns-else-xm30-xm28
unfolding cdel_of
returns-else-xm30-xm28 c = simp (c.if-xm30-xm29.true, c.if-xm30-xm28.false)

pub returns-then-xm29-xm28 : goal.returns-then-xm29-xm28
unfolding cdel_of
returns-then-xm29-xm28 c = simp (c.if-xm30-xm29.false, c.if-xm29-xm28.true)

pub returns-else-xm29-xm28 : goal.returns-else-xm29-xm28
unfolding cdel_of
returns-else-xm29-xm28 c = simp (c.if-xm30-xm29.false, c.if-xm29-xm28.false)
