use Rattle.curve.proofs.row.fn.count_of_layer.count.Goals as goal

pub returns : goal.returns
returns c = cc
