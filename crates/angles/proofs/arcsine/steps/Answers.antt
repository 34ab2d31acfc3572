use Rattle.angles.specs.Arcsine.{below, asin_steps}
use Rattle.angles.proofs.ArcsineLaws.{asin_falls, tiny}
use Rattle.angles.proofs.arcsine.steps.Goals as goal

pub returns-then-t-lt17179869184 : goal.returns-then-t-lt17179869184
returns-then-t-lt17179869184 c = tiny c.args.t c.if-t-lt17179869184.true

pub steps-requires-clause-falls : goal.steps-requires-clause-falls
unfolding below
steps-requires-clause-falls c = asin_falls c.args.t

pub returns-else-t-lt17179869184 : goal.returns-else-t-lt17179869184
unfolding below asin_steps
returns-else-t-lt17179869184 c = c.steps.ensures
