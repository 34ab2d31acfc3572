use Rattle.replay.proofs.Comparing.{es_tells}
use Rattle.replay.proofs.es.agrees.Goals as goal

pub returns : goal.returns
returns c = es_tells c.modes-m.ensures c.word.ensures c.has_all.ensures
