use Rattle.std.proofs.Common.{ap, arith, length}
use Rattle.names.proofs.width.Goals as goal

pub returns : goal.returns
returns c = omega (arith, ap length c.last.ensures)
