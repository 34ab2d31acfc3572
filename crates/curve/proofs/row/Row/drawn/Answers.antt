use Rattle.std.proofs.lemmas.Grind.{common_steps}
use Rattle.std.proofs.Common.{arith}
use Rattle.curve.proofs.row.Row.drawn.Goals as goal

pub returns-then-self-rows : goal.returns-then-self-rows
returns-then-self-rows c = grind (arith, common_steps)
