use Rattle.decimal.proofs.PageLaws.{added_as}
use Rattle.words.specs.Lists.{tab}
use Rattle.es_sheet.proofs.sheet.slot.Goals as goal

pub returns-then-empty : goal.returns-then-empty
unfolding tab
returns-then-empty c = added_as _ (rw (← c.empty.ensures, c.if-empty.true)) c.filled.ensures

pub returns : goal.returns
unfolding tab
returns c = added_as _ (rw (← c.empty.ensures, c.if-empty.false, ← c.bits.ensures, ← c.bits-2.ensures, ← c.bits-3.ensures, ← c.bits-4.ensures)) c.filled-2.ensures
