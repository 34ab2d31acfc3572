use Rattle.curve.proofs.row.fn.count_below.count.Goals as goal

pub returns : goal.returns
returns c = c.below.ensures
