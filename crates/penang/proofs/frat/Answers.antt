use Rattle.penang.specs.Penang.{frat_of}
use Rattle.penang.proofs.frat.Goals as goal

pub returns : goal.returns
unfolding frat_of
returns c = cc
