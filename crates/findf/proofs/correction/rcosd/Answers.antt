use Rattle.findf.specs.Rows.{rcosd_of}
use Rattle.findf.proofs.correction.rcosd.Goals as goal

pub returns : goal.returns
unfolding rcosd_of
returns c = cc
