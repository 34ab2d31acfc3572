use mathlib.Core.Path.{refl}
use Rattle.fnorml.specs.Fnorml.{tail_of}
use Rattle.fnorml.proofs.tail.Goals as goal

pub returns : goal.returns
unfolding tail_of
returns c = refl
