use Prim.Native.Nat.{suc, ◌-◌, min}
use mathlib.Core.Path.{◌≡◌}
use native.Mathlib.Omega.{arith}
use Rattle.rounding.proofs.DecimalsLaws.{length_digits}
use Rattle.rounding.proofs.point.Goals as goal

pub returns-else-places-eq0-clause-value : goal.returns-else-places-eq0-clause-value
returns-else-places-eq0-clause-value c =
    let some : min c.args.places 3 ≡ suc (min c.args.places 3 - 1) = omega arith in
    rw (some, length_digits) (omega arith)
