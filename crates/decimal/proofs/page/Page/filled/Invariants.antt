use Rattle.std.proofs.Common.{◌≡◌, length}
use Rattle.decimal.specs.Page.{added}
use Rattle.decimal.specs.Filled.{filled_text}
use Rattle.decimal.proofs.page.Page.filled.Given as goal

-- what is still to be filled ends as the whole template does
abbrev pub invariant-loop-rest : goal.invariant-loop-rest
invariant-loop-rest l = added l.self (filled_text l.v l.rest) ≡ added l.fn.self (filled_text l.v l.t)

abbrev pub decreases-loop-rest : goal.decreases-loop-rest
decreases-loop-rest l = length l.rest
