use Rattle.angles.specs.Series.{cos_plus, fixed}
use Rattle.angles.proofs.series.Powers.cos_plus.Goals as goal

pub returns : goal.returns
unfolding cos_plus fixed
returns c = cc
