use Rattle.decimal.specs.Page.{Extends}
use Rattle.drawing.proofs.head.escaped.Given as goal

abbrev pub invariant-loop-b : goal.invariant-loop-b
invariant-loop-b g l = Extends l.fn.page l.page
