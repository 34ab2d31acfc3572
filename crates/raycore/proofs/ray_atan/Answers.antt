use Rattle.raycore.proofs.ray_atan.Goals as goal

pub returns : goal.returns
returns c = cc
