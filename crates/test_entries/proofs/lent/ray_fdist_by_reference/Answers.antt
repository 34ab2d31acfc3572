use mathlib.Core.Path.{◌∙◌}
use Rattle.test_entries.proofs.lent.ray_fdist_by_reference.Goals as goal

pub returns : goal.returns
returns c = c.searched.ensures ∙ c.fdist.ensures
