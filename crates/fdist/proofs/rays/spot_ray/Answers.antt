use Rattle.fdist.specs.Rays.{spot_of}
use Rattle.fdist.proofs.rays.spot_ray.Goals as goal

pub returns : goal.returns
unfolding spot_of
returns c = cc
