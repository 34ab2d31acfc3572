use Rattle.curve.proofs.row.fn.farthest.largest.Goals as goal

pub returns : goal.returns
returns c = c.far.ensures
