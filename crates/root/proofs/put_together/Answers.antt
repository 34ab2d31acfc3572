use mathlib.Core.Logic.{◌⊎◌, inl, inr}
use mathlib.Core.Path.{◌≡◌, sym, ap, ◌∙◌, subst}
use mathlib.Core.Bool.{false, not}
use Prim.Native.Nat.{ℕ, suc, ◌+◌, ◌-◌, ◌*◌, ◌%◌, ◌^◌, ◌≤◌, ◌<◌}
use native.Mathlib.Nat.{eq-or-lt_of_le, mul_assoc, pow-succ'}
use native.Mathlib.Omega.{arith}
use borrow.Author.Tests.{le-ltb}
use lib.Dec.{T}
use lib.Ieee.{binary32, units, of_bits, nan_bits}
use lib.Ieee.Bits.{nan_bits_above, of_bits-fits}
use lib.Ieee.Exact.{HasValue}
use Rattle.arith.proofs.ScaledLaws.{units_fit, units_value, same_value}
use Rattle.root.proofs.Floats.{normal_value}
use Rattle.root.proofs.put_together.Goals as goal

module _ (r k : ℕ) (low : 2 ^ 23 ≤ r) (high : r ≤ 2 ^ 24) (small : k < 200) where
  abbrev bits : ℕ
  bits = k * 8388608 % 18446744073709551616 + r

  no_nan : T (not (nan_bits binary32 bits))
  no_nan = rw (nan_bits_above binary32 bits, le-ltb 2139095040 (bits % 2147483648) (omega arith)) tt

  bits_value : HasValue (of_bits binary32 bits) false (r * 2 ^ k) (2 ^ 149)
  bits_value = go (eq-or-lt_of_le high)
    where
      go : (r ≡ 2 ^ 24) ⊎ (r < 2 ^ 24) → HasValue (of_bits binary32 bits) false (r * 2 ^ k) (2 ^ 149)
      go (inr l) = subst (λ (q : ℕ). HasValue (of_bits binary32 bits) false (q * 2 ^ k) (2 ^ 149)) (omega arith) (normal_value bits k (r - 8388608) (omega arith) (omega arith) (omega arith))
      go (inl e) =
          subst (λ (a : ℕ). HasValue (of_bits binary32 bits) false a (2 ^ 149))
          (ap (λ (z : ℕ). 8388608 * z) (pow-succ' 2 k) ∙ sym (mul_assoc 8388608 2 (2 ^ k)) ∙ ap (λ (z : ℕ). z * 2 ^ k) (sym e))
          (normal_value bits (suc k) 0 (omega arith) (omega arith) (omega arith))

  together : of_bits binary32 bits ≡ units binary32 false r k
  together = same_value (of_bits binary32 bits) (units binary32 false r k) (r * 2 ^ k) (of_bits-fits binary32 bits) (units_fit r k high small) bits_value (units_value r k high small)

pub float_from_bits-result : goal.float_from_bits-result
float_from_bits-result c = no_nan c.args.r c.args.k c.requires.fact_1 c.requires.fact_2 c.requires.fact_3

pub returns : goal.returns
returns c = together c.args.r c.args.k c.requires.fact_1 c.requires.fact_2 c.requires.fact_3
