use Rattle.penang.specs.Penang.{xm_of}
use Rattle.penang.proofs.xm.Goals as goal

pub returns : goal.returns
unfolding xm_of
returns c = cc
