use Prim.Native.Nat.{ℕ, ◌^◌, ◌<◌}
use native.Mathlib.Omega.{arith}
use lib.Dec.{T, le→leb}
use lib.Ieee.{binary64, in_float}
use mir.Syntax.{w64}
use mir.Val.{to_z}
use mir.ValLaws.{to_z_pos}
use Rattle.root.proofs.Radicand.guess.Goals as goal

-- binary64 holds each whole number of 48 digits
held : (w : ℕ) → w < 2 ^ 48 → T (in_float binary64 (to_z w64 w))
unfolding in_float
held w h = rw (to_z_pos w64 w (omega arith)) (le→leb w (2 ^ 53) (omega arith))

pub int_to_float-f : goal.int_to_float-f
int_to_float-f c = held c.args.self.w c.args.self.digits
