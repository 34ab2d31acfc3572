use Rattle.view.proofs.ViewLaws.{word_past}
use Rattle.view.proofs.word.Goals as goal

pub returns-then-i-s : goal.returns-then-i-s
returns-then-i-s c = word_past _ _ c.if-i-s.true
