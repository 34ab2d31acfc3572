use Rattle.decimal.specs.Page.{Extends}
use Rattle.listing.proofs.part.Given as goal

abbrev pub invariant-loop-i : goal.invariant-loop-i
invariant-loop-i l = Extends l.fn.page l.page
