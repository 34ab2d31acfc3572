use Rattle.fnorml.specs.Fnorml.{fnorml_of}
use Rattle.fnorml.proofs.fnorml.Goals as goal

pub returns-then-ypx : goal.returns-then-ypx
unfolding fnorml_of
returns-then-ypx c = simp c.if-ypx.true (cc)

pub returns-else-ypx : goal.returns-else-ypx
unfolding fnorml_of
returns-else-ypx c = simp c.if-ypx.false (cc)
