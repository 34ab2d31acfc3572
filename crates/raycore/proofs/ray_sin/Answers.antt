use Rattle.raycore.proofs.ray_sin.Goals as goal

pub returns : goal.returns
returns c = cc
