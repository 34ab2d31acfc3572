use Rattle.decimal.specs.Page.{Extends}
use Rattle.rays.proofs.list.Given as goal

abbrev pub invariant-loop-slot : goal.invariant-loop-slot
invariant-loop-slot l = Extends l.fn.page l.page
