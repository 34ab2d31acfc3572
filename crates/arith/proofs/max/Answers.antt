use Rattle.arith.specs.Floats.{max_of}
use Rattle.arith.proofs.max.Goals as goal

pub returns-then-a-b : goal.returns-then-a-b
unfolding max_of
returns-then-a-b c = simp c.if-a-b.true

pub returns-then-a : goal.returns-then-a
unfolding max_of
returns-then-a c = simp (c.if-a-b.false, c.if-a.true)

pub returns-else-a : goal.returns-else-a
unfolding max_of
returns-else-a c = simp (c.if-a-b.false, c.if-a.false)
