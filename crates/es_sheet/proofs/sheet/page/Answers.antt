use Rattle.decimal.proofs.PageLaws.{added_then, added_as}
use Rattle.words.specs.Lists.{tab}
use Rattle.es_sheet.specs.Page.{page_of}
use Rattle.es_sheet.proofs.sheet.page.Goals as goal

pub returns : goal.returns
unfolding page_of tab
returns c = added_as _ (rw (← c.modes.ensures)) (added_then _ _ _ (added_then _ _ _ (added_then _ _ _ c.text.ensures c.shown.ensures) c.head.ensures) c.slots.ensures)
