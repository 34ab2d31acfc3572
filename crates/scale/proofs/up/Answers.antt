use Prim.Native.Nat.{ℕ}
use mathlib.Core.Path.{subst}
use native.Mathlib.Omega.{arith}
use Rattle.scale.specs.Scale.{Marked}
use Rattle.scale.proofs.up.Goals as goal

pub returns : goal.returns
returns c = subst (λ (t : ℕ). Marked 1000 10 t c.up_to.result) (omega arith) c.up_to.ensures
