use Rattle.decimal.specs.Page.{Extends}
use Rattle.curve.proofs.each.Given as goal

abbrev pub invariant-loop-r : goal.invariant-loop-r
invariant-loop-r g l = Extends l.fn.page l.page
