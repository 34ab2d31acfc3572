use Rattle.raycore.proofs.ray_esmod.Goals as goal

pub returns : goal.returns
returns c = cc
