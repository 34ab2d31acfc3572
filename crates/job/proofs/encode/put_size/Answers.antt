use mathlib.Core.Path.{refl, ◌∙◌}
use Rattle.job.proofs.Puts.{put_one, low_bytes}
use Rattle.job.proofs.encode.put_size.Goals as goal

pub returns : goal.returns
returns c = c.put_word.ensures ∙ rw (low_bytes _) (put_one _ _ _ _ refl)
