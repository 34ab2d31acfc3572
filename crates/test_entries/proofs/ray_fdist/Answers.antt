use mathlib.Core.Path.{◌∙◌}
use Rattle.test_entries.proofs.ray_fdist.Goals as goal

pub returns : goal.returns
returns c = c.searched.ensures ∙ c.fdist.ensures c.args.m
