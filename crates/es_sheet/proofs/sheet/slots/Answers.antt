use Rattle.decimal.proofs.PageLaws.{added_then, added_as}
use mathlib.Core.List.{append-nil}
use Rattle.es_sheet.proofs.sheet.slots.Goals as goal

pub returns-then-empty : goal.returns-then-empty
returns-then-empty c = added_then _ _ _ (added_then _ _ _ c.slot.ensures c.slot-2.ensures) (added_as _ (rw (← c.empty.ensures, ← c.empty-2.ensures, c.if-empty.true)) c.why.ensures)

pub returns-else-empty : goal.returns-else-empty
returns-else-empty c = added_as _ (rw (← c.empty.ensures, ← c.empty-2.ensures, c.if-empty.false, append-nil)) (added_then _ _ _ c.slot.ensures c.slot-2.ensures)
