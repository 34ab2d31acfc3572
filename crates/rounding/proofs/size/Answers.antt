use mathlib.Core.Path.{sym}
use native.Mathlib.Omega.{arith}
use Rattle.rounding.proofs.DecimalsLaws.{size_is}
use Rattle.rounding.proofs.size.Goals as goal

pub returns : goal.returns
returns c = sym (size_is c.ilog10.result c.args.n (omega arith) (omega arith))
