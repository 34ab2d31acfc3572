use Rattle.std.proofs.Common.{eq-eqb, ne_eqb}
use Rattle.findf.specs.Walk.{next_layer_of, next_layer_by}
use Rattle.findf.proofs.walk.next_layer.Goals as goal

pub returns-then-second : goal.returns-then-second
unfolding next_layer_of next_layer_by
returns-then-second c = simp (eq-eqb _ _ c.if-il-eq1.true, c.if-second.true, ← c.layer.ensures)

pub returns-then-il-eq1 : goal.returns-then-il-eq1
unfolding next_layer_of next_layer_by
returns-then-il-eq1 c = simp (eq-eqb _ _ c.if-il-eq1.true, c.if-second.false, ← c.layer-then-il-eq1.ensures)

pub returns-then-il-eq2 : goal.returns-then-il-eq2
unfolding next_layer_of next_layer_by
returns-then-il-eq2 c = simp (ne_eqb _ _ c.if-il-eq1.false, eq-eqb _ _ c.if-il-eq2.true, ← c.layer-then-il-eq2.ensures)

pub returns : goal.returns
unfolding next_layer_of next_layer_by
returns c = simp (ne_eqb _ _ c.if-il-eq1.false, ne_eqb _ _ c.if-il-eq2.false, ← c.with_label.ensures)
