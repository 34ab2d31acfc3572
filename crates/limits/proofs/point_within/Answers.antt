use Rattle.limits.proofs.point_within.Goals as goal

pub returns : goal.returns
returns c = cc
