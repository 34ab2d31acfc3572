use Rattle.std.proofs.Common.{◌≡◌, ℕ, ◌-◌, ◌/◌, ◌%◌, ◌≤◌, Bool, not, ◌&&◌, T, eqb, sym, subst, le_trans, le_of_lt, arith, lit≤, ne_eqb}
use lib.Bits.{bit_and, mask_lt}
use lib.Ieee.{of_bits, to_bits, nan_bits, binary64}
use Rattle.angles.proofs.GridLaws.{not_nan_right}
use Rattle.angles.proofs.guess.rough_root.Goals as goal

-- below 2 ^ 62 * 1.5 a pattern is no NaN's
small_pattern : (b : ℕ) → b ≤ 6909647724535087104 → T (not (nan_bits binary64 b))
unfolding nan_bits
small_pattern b h = subst (λ (z : Bool). T (not (z && not (eqb (b % 4503599627370496) 0)))) (sym (ne_eqb (b % 9223372036854775808 / 4503599627370496) 2047 (other b h))) tt
  where
    other : (b : ℕ) → b ≤ 6909647724535087104 → b % 9223372036854775808 / 4503599627370496 ≡ 2047 → ⊥
    other b h e = omega arith

pub float_to_bits-b : goal.float_to_bits-b
float_to_bits-b c = not_nan_right (of_bits binary64 0) c.args.u c.if-u.true

pub overflow_sub-v : goal.overflow_sub-v
overflow_sub-v c = le_trans (le_of_lt (mask_lt (to_bits binary64 c.args.u / 2) 62)) (lit≤ tt)

pub float_from_bits-v : goal.float_from_bits-v
float_from_bits-v c =
    small_pattern (6909647724535087104 - bit_and (to_bits binary64 c.args.u / 2) 4611686018427387903) (less (bit_and (to_bits binary64 c.args.u / 2) 4611686018427387903))
  where
    less : (b : ℕ) → 6909647724535087104 - b ≤ 6909647724535087104
    less b = omega arith
