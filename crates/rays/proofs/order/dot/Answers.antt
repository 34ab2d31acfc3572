use Rattle.std.proofs.Common.{arith}
use Rattle.rays.proofs.order.dot.Goals as goal

pub returns-in-None : goal.returns-in-None
returns-in-None c = (omega arith, omega arith)
