use Rattle.replay.proofs.record.has.Goals as goal

pub returns : goal.returns
returns g c = cc
