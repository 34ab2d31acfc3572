use Rattle.angles.specs.Requires.{over}
use Rattle.angles.proofs.series.Powers.sin_plus.Goals as goal

pub returns : goal.returns
unfolding over
returns c = cc
