use Rattle.std.proofs.Common.{◌≡◌, replicate}
use Rattle.decimal.specs.Page.{added}
use Rattle.decimal.proofs.page.Page.fill.Given as goal

abbrev pub invariant-loop : goal.invariant-loop
invariant-loop l = l.self ≡ added l.initial.self (replicate l.counter l.b)
