use native.Mathlib.Omega.{arith}
use native.Mathlib.Nat.{one-le-pow}
use Rattle.rounding.proofs.power.Goals as goal

pub returns-clause-result_nonzero : goal.returns-clause-result_nonzero
returns-clause-result_nonzero c = omega (arith, one-le-pow c.min.result 10 (omega arith), c.pow.ensures)
