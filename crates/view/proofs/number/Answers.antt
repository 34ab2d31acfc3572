use mathlib.Core.Path.{ap, ◌∙◌}
use Rattle.arith.specs.Floats.{f32}
use Rattle.view.proofs.number.Goals as goal

pub returns : goal.returns
returns c = c.float.ensures ∙ ap f32 c.word.ensures
