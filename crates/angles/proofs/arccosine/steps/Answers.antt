use Rattle.angles.specs.Arccosine.{above, acos_steps}
use Rattle.angles.proofs.ArccosineLaws.{acos_falls}
use Rattle.angles.proofs.arccosine.steps.Goals as goal

pub steps-requires-clause-falls : goal.steps-requires-clause-falls
unfolding above
steps-requires-clause-falls c = acos_falls c.args.neg c.args.t

pub returns : goal.returns
unfolding above acos_steps
returns c = c.steps.ensures
