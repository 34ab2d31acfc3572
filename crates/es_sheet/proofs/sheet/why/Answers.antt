use Rattle.decimal.proofs.PageLaws.{added_as}
use Rattle.words.specs.Lists.{tab}
use Rattle.es_sheet.proofs.sheet.why.Goals as goal

pub returns-then-at_least : goal.returns-then-at_least
unfolding tab
returns-then-at_least c = added_as _ (rw (← c.word.ensures, ← c.word-2.ensures, ← c.at_least.ensures, c.if-at_least.true)) c.text.ensures

pub returns-then-at_least-2 : goal.returns-then-at_least-2
unfolding tab
returns-then-at_least-2 c = added_as _ (rw (← c.word.ensures, ← c.word-2.ensures, ← c.at_least.ensures, c.if-at_least.false, ← c.middle.ensures, ← c.at_least-else-at_least.ensures, c.if-at_least-2.true)) c.text-then-at_least-2.ensures

pub returns-else-at_least-2 : goal.returns-else-at_least-2
unfolding tab
returns-else-at_least-2 c = added_as _ (rw (← c.word.ensures, ← c.word-2.ensures, ← c.at_least.ensures, c.if-at_least.false, ← c.middle.ensures, ← c.at_least-else-at_least.ensures, c.if-at_least-2.false)) c.text-else-at_least-2.ensures
