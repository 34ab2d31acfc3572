use Rattle.decimal.specs.Page.{Extends}
use Rattle.listing.proofs.listing.Given as goal

abbrev pub invariant-loop-first : goal.invariant-loop-first
invariant-loop-first l = Extends l.fn.page l.page
