use Rattle.angles.specs.Arctangent.{tan_below, atan_steps}
use Rattle.angles.proofs.ArctangentLaws.{atan_falls}
use Rattle.angles.proofs.ArctangentGuess.{atan_tiny}
use Rattle.angles.proofs.arctangent.steps.Goals as goal

pub returns-then-t-le131072 : goal.returns-then-t-le131072
returns-then-t-le131072 c = atan_tiny c.args.t c.if-t-le131072.true

pub steps-requires-clause-falls : goal.steps-requires-clause-falls
unfolding tan_below
steps-requires-clause-falls c = atan_falls c.args.t c.requires

pub returns-else-t-le131072 : goal.returns-else-t-le131072
unfolding tan_below atan_steps
returns-else-t-le131072 c = c.steps.ensures
