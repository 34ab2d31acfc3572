use Rattle.findf.proofs.correction.correction_of.Goals as goal

pub returns : goal.returns
returns c = cc
