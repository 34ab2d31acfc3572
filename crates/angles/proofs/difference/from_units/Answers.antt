use Rattle.angles.specs.SinCos.{from_units}
use Rattle.angles.proofs.Literals.{lit_30}
use Rattle.angles.proofs.difference.from_units.Goals as goal

pub returns-then-neg : goal.returns-then-neg
unfolding from_units
returns-then-neg c = rw c.if-neg.true (cc lit_30)

pub returns-else-neg : goal.returns-else-neg
unfolding from_units
returns-else-neg c = rw c.if-neg.false (cc lit_30)
