use Rattle.std.proofs.Common.{true, false, arith, rules}
use Rattle.angles.proofs.ArccosineLaws.{acos_steep}
use Rattle.angles.proofs.arccosine.slack.Goals as goal

pub returns-in-true-6588251-to-13175442 : goal.returns-in-true-6588251-to-13175442
returns-in-true-6588251-to-13175442 c = rw c.in-true-6588251-to-13175442.is-0 (search rules, λ t. acos_steep true t c.args.j (omega arith, omega arith))

pub returns-in-false-1-to-6588998 : goal.returns-in-false-1-to-6588998
returns-in-false-1-to-6588998 c = rw c.in-false-1-to-6588998.is-0 (search rules, λ t. acos_steep false t c.args.j (omega arith, omega arith))
