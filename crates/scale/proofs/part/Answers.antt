use Prim.Native.Nat.{ℕ, ◌+◌, ◌*◌, ◌/◌, ◌≤◌}
use mathlib.Core.Path.{sym, subst}
use native.Mathlib.Omega.{arith}
use Rattle.scale.proofs.ScaleLaws.{part_inside}
use Rattle.scale.proofs.part.Goals as goal

pub returns-clause-upper_bound : goal.returns-clause-upper_bound
returns-clause-upper_bound c =
    let a = c.args in
    subst (λ (n : ℕ). (2 * n + a.end) / (2 * a.end) ≤ a.width) (sym c.product.ensures) (part_inside a.width c.min.result a.end (omega arith) (omega arith))
