use Rattle.std.proofs.lemmas.Grind.{common_steps}
use Rattle.std.proofs.Common.{arith}
use Rattle.curve.proofs.RowLaws.{count_steps}
use Rattle.curve.proofs.row.count.Goals as goal

pub loop-r-preserved : goal.loop-r-preserved
loop-r-preserved g c = grind (arith, common_steps, count_steps)

pub loop-r-init : goal.loop-r-init
loop-r-init g c = grind (arith, common_steps, count_steps)
