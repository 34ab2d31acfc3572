use Rattle.curve.proofs.row.fn.count_without_length.count.Goals as goal

pub returns : goal.returns
returns c = cc
