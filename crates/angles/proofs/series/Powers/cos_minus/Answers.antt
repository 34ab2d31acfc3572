use Rattle.angles.specs.Series.{cos_minus, fixed}
use Rattle.angles.proofs.series.Powers.cos_minus.Goals as goal

pub returns : goal.returns
unfolding cos_minus fixed
returns c = cc
