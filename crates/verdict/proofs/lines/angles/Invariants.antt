use Rattle.decimal.specs.Page.{Extends}
use Rattle.verdict.proofs.lines.angles.Given as goal

abbrev pub invariant-loop-s : goal.invariant-loop-s
invariant-loop-s l = Extends l.fn.page l.page
