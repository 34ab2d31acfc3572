use Rattle.arith.proofs.Magnitude.{abs_lem}
use Rattle.arith.proofs.abs.Goals as goal

pub returns : goal.returns
returns c = cc (abs_lem c.args.x)
