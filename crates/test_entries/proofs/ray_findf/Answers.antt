use Rattle.test_entries.proofs.ray_findf.Goals as goal

pub returns : goal.returns
returns c = cc
