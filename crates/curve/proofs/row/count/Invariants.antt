use Rattle.std.proofs.Common.{◌≡◌, ◌≤◌}
use Rattle.curve.specs.Rows.{count_of}
use Rattle.curve.proofs.row.count.Given as goal

abbrev pub invariant-loop-r : goal.invariant-loop-r
invariant-loop-r g l = record { few : l.n ≤ l.r; counted : l.n ≡ count_of g.so l.r }
