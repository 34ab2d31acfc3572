use Rattle.test_entries.proofs.ray_sqrt.Goals as goal

pub returns : goal.returns
returns c = cc
