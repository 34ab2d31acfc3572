use Rattle.limits.proofs.fi_within.Goals as goal

pub returns : goal.returns
returns c = cc
