use Rattle.raycore.proofs.ray_acos.Goals as goal

pub returns : goal.returns
returns c = cc
