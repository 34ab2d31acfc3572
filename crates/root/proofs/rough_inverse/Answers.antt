use mathlib.Core.Path.{◌≡◌, sym, subst}
use mathlib.Core.Bool.{Bool, not, ◌&&◌}
use Prim.Native.Nat.{ℕ, ◌-◌, ◌/◌, ◌%◌}
use native.Mathlib.Omega.{arith}
use borrow.Author.Tests.{ne_eqb}
use lib.Dec.{T, eqb}
use lib.Ieee.{of_bits, to_bits, nan_bits, binary64}
use Rattle.root.proofs.Floats.{number}
use Rattle.root.proofs.rough_inverse.Goals as goal

-- a pattern up to the constant's has an exponent below a NaN's
small_pattern : (b : ℕ) → T (not (nan_bits binary64 (6909647724535087104 - b / 2)))
unfolding nan_bits
small_pattern b = subst (λ (z : Bool). T (not (z && not (eqb ((6909647724535087104 - b / 2) % 4503599627370496) 0)))) (sym (ne_eqb ((6909647724535087104 - b / 2) % 9223372036854775808 / 4503599627370496) 2047 (other b))) tt
  where
    other : (b : ℕ) → (6909647724535087104 - b / 2) % 9223372036854775808 / 4503599627370496 ≡ 2047 → ⊥
    other b e = omega arith

pub float_to_bits-b : goal.float_to_bits-b
float_to_bits-b c = number (of_bits binary64 0) c.args.w c.if-w.true

pub float_from_bits-y : goal.float_from_bits-y
float_from_bits-y c = small_pattern (to_bits binary64 c.args.w)
