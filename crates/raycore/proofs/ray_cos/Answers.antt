use Rattle.raycore.proofs.ray_cos.Goals as goal

pub returns : goal.returns
returns c = cc
