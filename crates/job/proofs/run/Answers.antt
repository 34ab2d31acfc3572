use mathlib.Core.Path.{◌∙◌}
use Rattle.job.proofs.run.Goals as goal

pub returns : goal.returns
returns c = (c.code.ensures ∙ c.answer.ensures.0, c.answer.ensures.1)
