use Rattle.std.proofs.Common.{◌≡◌}
use Rattle.curve.specs.Rows.{largest}
use Rattle.curve.proofs.row.largest.Given as goal

abbrev pub invariant-loop-r : goal.invariant-loop-r
invariant-loop-r g l = l.top ≡ largest g.f l.r
