use mathlib.Core.Path.{refl}
use Rattle.limits.specs.Limits.{within}
use Rattle.limits.proofs.Range.holds.Goals as goal

pub returns : goal.returns
unfolding within
returns c = refl
