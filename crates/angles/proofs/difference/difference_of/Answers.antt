use Rattle.std.proofs.Common.{le-ltb, lt-ltb}
use Rattle.angles.specs.SinCos.{difference}
use Rattle.angles.proofs.difference.difference_of.Goals as goal

pub returns-then-plus-minus : goal.returns-then-plus-minus
unfolding difference
returns-then-plus-minus c = let a = c.args in rw (lt-ltb a.plus a.minus c.if-plus-minus.true) c.from_units.ensures

pub returns-else-plus-minus : goal.returns-else-plus-minus
unfolding difference
returns-else-plus-minus c = let a = c.args in rw (le-ltb a.plus a.minus c.if-plus-minus.false) c.from_units-else-plus-minus.ensures
