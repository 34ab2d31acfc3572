use Rattle.crossing.proofs.numbered_rows.Goals as goal

pub returns : goal.returns
returns c = cc
