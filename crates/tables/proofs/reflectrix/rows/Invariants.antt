use Rattle.decimal.specs.Page.{Extends}
use Rattle.tables.proofs.reflectrix.rows.Given as goal

abbrev pub invariant-loop-r : goal.invariant-loop-r
invariant-loop-r l = Extends l.fn.page l.page
