use Rattle.view.specs.View.{asked_of}
use Rattle.view.proofs.View.asked.Goals as goal

pub returns : goal.returns
unfolding asked_of
returns c = cc
