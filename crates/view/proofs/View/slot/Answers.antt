use Rattle.view.proofs.ViewLaws.{slot_past, slot_empty, slot_ray, slot_low}
use Rattle.view.proofs.View.slot.Goals as goal

pub returns-then-s-ge-SLOTS : goal.returns-then-s-ge-SLOTS
returns-then-s-ge-SLOTS c = slot_past _ _ _ c.if-s-ge-SLOTS.true

pub returns-then-word-eq-NO_LAYER : goal.returns-then-word-eq-NO_LAYER
returns-then-word-eq-NO_LAYER c = slot_empty _ _ _ c.if-s-ge-SLOTS.false _ c.word.ensures c.if-word-eq-NO_LAYER.true

pub returns-then-at_least : goal.returns-then-at_least
returns-then-at_least c = slot_ray c.args.self.job.now _ _ c.if-s-ge-SLOTS.false _ c.word.ensures c.if-word-eq-NO_LAYER.false c.at_least.result (cc) c.if-at_least.true

pub returns : goal.returns
returns c = slot_low c.args.self.job.now _ _ c.if-s-ge-SLOTS.false _ c.word.ensures c.if-word-eq-NO_LAYER.false c.at_least.result (cc) c.if-at_least.false
