use Rattle.findf.proofs.correction.row_of.Goals as goal

pub returns : goal.returns
returns c = cc
