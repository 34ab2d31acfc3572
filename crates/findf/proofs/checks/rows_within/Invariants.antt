use Rattle.std.proofs.Common.{◌≡◌}
use Rattle.findf.specs.Checks.{rows_within}
use Rattle.findf.proofs.checks.rows_within.Given as goal

abbrev pub invariant-loop-i : goal.invariant-loop-i
invariant-loop-i l = l.ok ≡ rows_within l.t.fvert l.t.hprim l.t.htrue l.t.afac l.i
