use Rattle.esmod.specs.Esmod.{sdmax_of}
use Rattle.esmod.proofs.sdmax.Goals as goal

pub returns : goal.returns
unfolding sdmax_of
returns c = cc
