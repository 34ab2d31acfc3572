use Rattle.test_entries.proofs.ray_fnorml.Goals as goal

pub returns : goal.returns
returns c = cc
