use Rattle.fnorml.specs.Fnorml.{size_of}
use Rattle.fnorml.proofs.size.Goals as goal

pub returns : goal.returns
unfolding size_of
returns c = cc
