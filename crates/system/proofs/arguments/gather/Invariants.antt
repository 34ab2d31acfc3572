use Rattle.decimal.specs.Page.{Extends}
use Rattle.system.proofs.arguments.gather.Given as goal

abbrev pub invariant-loop-i : goal.invariant-loop-i
invariant-loop-i g l = Extends l.fn.line l.line
