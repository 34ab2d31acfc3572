use Rattle.curve.proofs.row.fn.highest.largest.Goals as goal

pub returns : goal.returns
returns c = c.high.ensures
