use mathlib.Core.Path.{◌∙◌}
use Rattle.job.proofs.Puts.{put_one}
use Rattle.job.proofs.encode.put_one.Goals as goal

pub returns : goal.returns
returns g c = c.put_word.ensures ∙ put_one _ _ _ _ c.to_word.ensures
