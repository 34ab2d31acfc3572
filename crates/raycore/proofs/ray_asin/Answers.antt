use Rattle.raycore.proofs.ray_asin.Goals as goal

pub returns : goal.returns
returns c = cc
