use Rattle.std.proofs.Common.{◌≡◌, take}
use Rattle.decimal.specs.Page.{added}
use Rattle.names.specs.Names.{plains_of}
use Rattle.names.proofs.plains.Given as goal

abbrev pub invariant-loop-b : goal.invariant-loop-b
invariant-loop-b l = l.page ≡ added l.initial.page (plains_of (take l.b-index l.s))
