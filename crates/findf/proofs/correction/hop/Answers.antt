use Rattle.findf.specs.Rows.{hop_of}
use Rattle.findf.proofs.correction.hop.Goals as goal

pub returns : goal.returns
unfolding hop_of
returns c = cc
