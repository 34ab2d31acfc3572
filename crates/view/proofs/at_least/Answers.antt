use Rattle.view.proofs.at_least.Goals as goal

pub returns : goal.returns
returns c = cc
