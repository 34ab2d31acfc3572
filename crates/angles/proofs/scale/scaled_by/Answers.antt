use Rattle.std.proofs.Common.{◌≡◌, ℕ, ◌+◌, ◌-◌, ◌*◌, ◌/◌, ◌%◌, ◌^◌, ◌<◌, ◌≤◌, T, sym, ap, ◌∙◌, subst, arith}
use lib.Bits.{mask_lt}
use lib.Ieee.{binary32, fits, to_bits}
use Rattle.angles.proofs.Argument.{finite_number}
use Rattle.angles.proofs.Digits.{bits, digits, exponent_le, scaled_small, scaled_large, digits_fit}
use Rattle.angles.proofs.scale.scaled_by.Goals as goal
use Rattle.angles.proofs.scale.scaled_by.Goals.{After-wrapping_sub_u64-s, Start}

held : (c : Start) → T (fits binary32 c.args.x)
held c = subst T (sym c.well_formed.1.0.1) tt

field_le : (c : Start) → bits c.args.x / 2 ^ 23 ≤ 190 - c.args.k
field_le c = exponent_le c.args.k c.args.x c.requires.fact_1 (held c) c.requires.fact_2 c.requires.fact_3

-- nothing wraps
shift_is : (c : After-wrapping_sub_u64-s) → c.wrapping_sub_u64-s.result ≡ 190 - c.args.k - bits c.args.x / 2 ^ 23
shift_is c = unwrapped c.wrapping_sub_u64-s.result (190 - c.args.k) (bits c.args.x / 2 ^ 23) c.wrapping_sub_u64-s.type_inv (exponent_le c.args.k c.args.x c.requires.fact_1 (subst T (sym c.well_formed.1.0.1) tt) c.requires.fact_2 c.requires.fact_3) (top_le c.args.k) c.wrapping_sub_u64-s.ensures.value
  where
    top_le : (k : ℕ) → 190 - k ≤ 190
    top_le k = omega arith

    unwrapped : (r a e : ℕ) → r < 2 ^ 64 → e ≤ a → a ≤ 190 → (r + e) % 2 ^ 64 ≡ a → r ≡ a - e
    unwrapped r a e h k l q = omega arith

pub float_to_bits-b : goal.float_to_bits-b
float_to_bits-b c = finite_number c.args.x c.requires.fact_2

pub overflow_cast-b : goal.overflow_cast-b
overflow_cast-b c = let h = mask_lt (to_bits binary32 c.args.x) 31 in record { fits = omega arith }

pub overflow_add-d : goal.overflow_add-d
overflow_add-d c = let h = mask_lt (bits c.args.x) 23 in record { fits = omega arith }

pub overflow_mul-result : goal.overflow_mul-result
overflow_mul-result c = let x = c.args.x in record { fits = digits_fit (digits x) (mask_lt (bits x) 23) }

pub returns-then-s-lt64 : goal.returns-then-s-lt64
returns-then-s-lt64 c =
    let s = (goal.at.returns-then-s-lt64 c).Start in
    let a = c.args in
    ap (λ (z : ℕ). (digits a.x + 2 ^ 23) * 2 ^ 40 / 2 ^ z) (shift_is (goal.at.returns-then-s-lt64 c).After-wrapping_sub_u64-s) ∙ scaled_large a.k a.x c.requires.fact_1 (held s) (field_le s) (subst (λ (z : ℕ). z < 64) (shift_is (goal.at.returns-then-s-lt64 c).After-wrapping_sub_u64-s) c.if-s-lt64.true)

pub returns-else-s-lt64 : goal.returns-else-s-lt64
returns-else-s-lt64 c = let s = (goal.at.returns-else-s-lt64 c).Start in scaled_small c.args.k c.args.x c.requires.fact_1 (held s) (subst (λ (z : ℕ). 64 ≤ z) (shift_is (goal.at.returns-else-s-lt64 c).After-wrapping_sub_u64-s) c.if-s-lt64.false)
