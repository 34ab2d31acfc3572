use Rattle.std.proofs.Common.{arith}
use Rattle.curve.proofs.asked_line.Goals as goal

pub returns : goal.returns
returns c = (omega arith, omega arith)
