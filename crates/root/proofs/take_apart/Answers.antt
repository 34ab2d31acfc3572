use mathlib.Core.Path.{◌≡◌, refl, sym, ap, ◌∙◌, subst}
use mathlib.Core.Bool.{false}
use Prim.Native.Nat.{ℕ, suc, ◌+◌, ◌-◌, ◌*◌, ◌/◌, ◌%◌, ◌^◌, ◌≤◌, ◌<◌}
use native.Mathlib.Nat.{lt_of_not-le, not-le_of_lt, lt_of_lt_of_le, lt_of_le_of_lt, mul-le-mul_right, mul_assoc, mul-one, add_comm, mod-eq_of_lt}
use native.Mathlib.Omega.{arith}
use lib.Count.{count_leading_zeros, leading_top}
use lib.Dec.{lit≤}
use lib.Pow.{pow-add, pow_mono, shl_lt}
use lib.Ieee.{binary32, of_bits}
use lib.Ieee.Exact.{HasValue}
use Rattle.root.specs.Requires.{Apart}
use Rattle.root.proofs.Floats.{value_times, normal_value, subnormal_value}
use Rattle.root.proofs.take_apart.Goals as goal
use Rattle.root.proofs.take_apart.Goals.{Then-field-eq0}

-- a field of 0: with z zeros more than a significand has, b * 2 ^ z has 24 digits
module _ (b : ℕ) (positive : 0 < b) (small : b < 2 ^ 23) where
  abbrev zeros : ℕ
  zeros = count_leading_zeros 64 b

  place : (j : ℕ) × (zeros + suc j ≡ 64) × (2 ^ j ≤ b) × (b < 2 ^ suc j)
  place = leading_top 64 b positive (omega arith)

  place_low : place.0 < 23
  place_low = lt_of_not-le (λ (g : 23 ≤ place.0). not-le_of_lt (lt_of_le_of_lt place.2 small) (pow_mono g))

  enough : (41 ≤ zeros) × (zeros ≤ 63)
  enough = omega (arith, place.1, place_low)

  low_apart : Apart (of_bits binary32 b) (b * 2 ^ (zeros - 40) % 18446744073709551616) (149 - (zeros - 40))
  low_apart = subst (λ (s : ℕ). Apart (of_bits binary32 b) s (149 - z)) (sym (mod-eq_of_lt (lt_of_lt_of_le under (lit≤ tt)))) (record {
    value = subst (λ (a : ℕ). HasValue (of_bits binary32 b) false a (2 ^ 298)) (ap (λ (a : ℕ). a * 2 ^ 149) (mul-one b) ∙ ap (λ (a : ℕ). b * a) power ∙ sym (mul_assoc b (2 ^ z) (2 ^ (149 - z)))) (value_times (of_bits binary32 b) false (b * 2 ^ 0) (2 ^ 149) (2 ^ 149) (subnormal_value b small));
    leading = lead;
    digits = under;
    above = omega (arith, enough.0, enough.1);
    below = omega arith;
  })
    where
      z : ℕ
      z = zeros - 40

      split : place.0 + z ≡ 23
      split = omega (arith, place.1, enough.0)

      split' : suc place.0 + z ≡ 24
      split' = omega (arith, place.1, enough.0)

      whole : 149 ≡ z + (149 - z)
      whole = omega (arith, enough.1)

      lead : 2 ^ 23 ≤ b * 2 ^ z
      lead = subst (λ (n : ℕ). n ≤ b * 2 ^ z) (sym (pow-add 2 place.0 z) ∙ ap (λ (n : ℕ). 2 ^ n) split) (mul-le-mul_right (2 ^ z) place.2)

      under : b * 2 ^ z < 2 ^ 24
      under = subst (λ (n : ℕ). b * 2 ^ z < 2 ^ n) split' (shl_lt (suc place.0) z place.3)

      power : 2 ^ 149 ≡ 2 ^ z * 2 ^ (149 - z)
      power = ap (λ (n : ℕ). 2 ^ n) whole ∙ pow-add 2 z (149 - z)

-- any other field: the leading digit is not written
high_apart : (b x : ℕ) → b < 2139095040 → b / 8388608 ≡ suc x → Apart (of_bits binary32 b) (b % 8388608 + 8388608) (b / 8388608 + 148)
high_apart b x h e = subst (λ (f : ℕ). Apart (of_bits binary32 b) (b % 8388608 + 8388608) (f + 148)) (sym e) (record {
  value = subst (λ (a : ℕ). HasValue (of_bits binary32 b) false a (2 ^ 298)) (mul_assoc (8388608 + b % 8388608) (2 ^ x) (2 ^ 149) ∙ ap (λ (n : ℕ). (8388608 + b % 8388608) * n) (sym (pow-add 2 x 149) ∙ ap (λ (n : ℕ). 2 ^ n) (omega arith)) ∙ ap (λ (n : ℕ). n * 2 ^ (suc x + 148)) (add_comm 8388608 (b % 8388608))) (value_times (of_bits binary32 b) false ((8388608 + b % 8388608) * 2 ^ x) (2 ^ 149) (2 ^ 149) (normal_value b x (b % 8388608) (omega arith) e refl));
  leading = omega arith;
  digits = omega arith;
  above = omega arith;
  below = omega arith;
})

-- in the branch of a field of 0 the digits are the whole pattern
module _ (c : Then-field-eq0) where
  abbrev pattern : ℕ
  pattern = c.args.b

  all_digits : pattern % 8388608 ≡ pattern
  all_digits = omega arith

  shift : (41 ≤ count_leading_zeros 64 (pattern % 8388608)) × (count_leading_zeros 64 (pattern % 8388608) ≤ 63)
  shift = enough (pattern % 8388608) (omega arith) (omega arith)

pub overflow_sub-zeros : goal.overflow_sub-zeros
overflow_sub-zeros c = omega (arith, shift (goal.at.overflow_sub-zeros c).Then-field-eq0)

pub overflow_cast-zeros : goal.overflow_cast-zeros
overflow_cast-zeros c = omega (arith, shift (goal.at.overflow_cast-zeros c).Then-field-eq0)

pub overflow_shl-result : goal.overflow_shl-result
overflow_shl-result c = omega (arith, shift (goal.at.overflow_shl-result c).Then-field-eq0)

pub overflow_sub-result : goal.overflow_sub-result
overflow_sub-result c = omega (arith, shift (goal.at.overflow_sub-result c).Then-field-eq0)

pub returns-then-field-eq0 : goal.returns-then-field-eq0
returns-then-field-eq0 c =
    let b = c.args.b in
    subst (λ (d : ℕ). Apart (of_bits binary32 b) (d * 2 ^ (count_leading_zeros 64 d - 40) % 18446744073709551616) (149 - (count_leading_zeros 64 d - 40))) (sym (all_digits (goal.at.returns-then-field-eq0 c).Then-field-eq0))
    (low_apart b c.requires.fact_1 (omega arith))

pub returns-else-field-eq0 : goal.returns-else-field-eq0
returns-else-field-eq0 c =
    let b = c.args.b in
    high_apart b (b / 8388608 - 1) c.requires.fact_2 (omega arith)
