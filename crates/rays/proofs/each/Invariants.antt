use Rattle.decimal.specs.Page.{Extends}
use Rattle.rays.proofs.each.Given as goal

abbrev pub invariant-loop-i : goal.invariant-loop-i
invariant-loop-i g l = Extends l.fn.page l.page
