use Rattle.view.proofs.above.Goals as goal

pub returns : goal.returns
returns c = cc
