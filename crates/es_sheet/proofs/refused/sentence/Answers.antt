use Rattle.decimal.proofs.PageLaws.{added_as}
use Rattle.words.specs.Lists.{tab}
use Rattle.es_sheet.proofs.RefusalLaws.{others}
use Rattle.es_sheet.proofs.refused.sentence.Goals as goal

pub returns-in-Job : goal.returns-in-Job
unfolding tab
returns-in-Job c = added_as _ (rw c.in-Job.is) c.text.ensures

pub returns-in-Freq : goal.returns-in-Freq
unfolding tab
returns-in-Freq c = added_as _ (rw c.in-Freq.is) c.text-in-Freq.ensures

pub returns-in-Amind : goal.returns-in-Amind
unfolding tab
returns-in-Amind c = added_as _ (rw c.in-Amind.is) c.text-in-Amind.ensures

pub returns-in_default : goal.returns-in_default
unfolding tab
returns-in_default c = added_as _ (others c.args.broken c.in_default.not-Job c.in_default.not-Freq c.in_default.not-Amind) c.text-in_default.ensures
