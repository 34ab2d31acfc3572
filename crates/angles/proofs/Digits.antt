-- For `scaled_by`: an f32 times 2 ^ k, cut, from the digits and the exponent of its bit pattern. Assumes nothing.
use Rattle.std.proofs.Common.{◌≡◌, ℕ, zero, suc, ◌+◌, ◌-◌, ◌*◌, ◌/◌, ◌%◌, ◌^◌, ◌<◌, ◌≤◌, Bool, true, false, cond, T, eqb, leb, sym, ap, ◌∙◌, subst, zero-le, le_trans, le_of_eq, lt_of_lt_of_le, le-add_right, lt_of_le_of_lt, lt_irrefl, mul_assoc, div-lt_iff_lt-mul, mul-le-mul, add_comm, mul-le-mul_left, mul-lt-mul_of_pos_right, mul_right_comm, arith, lit<, lit≤, pow_pos, pow_mono, pow-add, ne_eqb}
use native.Mathlib.Nat.{div-eq_of_lt}
use lib.Bits.{bit_and, and_mask, mask_lt}
use lib.Pow.{mod-mod-pow}
use lib.Ieee.{Float, nan, inf, fin, binary32, up, down, odd, of_fields, of_bits, to_bits, fits}
use lib.Ieee.Bits.{of_bits-to_bits}
use lib.Ieee.Fits.{down_pos}
use lib.Ieee.Exact.{HasValue, odd_sign}
use lib.Ieee.Nearest.{div_same}
use lib.Ieee.Scale.{finite}
use Rattle.arith.specs.Floats.{scaled}

-- ---- by the number's value
scaled_value : (k : ℕ) (x : Float) (s : Bool) (a c : ℕ) → 0 < c → HasValue x s a c → scaled k x ≡ a * 2 ^ k / c
unfolding scaled
scaled_value k nan s a c C v = absurd v
scaled_value k (inf t) s a c C v = absurd v
scaled_value k (fin t m e) s a c C v = div_same (m * up e * 2 ^ k) (down e) (a * 2 ^ k) c (down_pos e) C (mul_right_comm (m * up e) (2 ^ k) c ∙ ap (λ (z : ℕ). z * 2 ^ k) v.1 ∙ mul_right_comm a (down e) (2 ^ k))

-- ---- by its fields
no_number : (b s : Bool) → T (finite (cond b (inf s) nan)) → ⊥
no_number true s h = h
no_number false s h = h

powers : (d y k : ℕ) → d * 2 ^ y * 2 ^ k ≡ d * 2 ^ (y + k)
powers d y k = mul_assoc d (2 ^ y) (2 ^ k) ∙ ap (λ (z : ℕ). d * z) (sym (pow-add 2 y k))

-- what fits 64 bits has an exponent's field of at most 190 - k
fields_le : (k : ℕ) (s : Bool) (f t : ℕ) → k ≤ 100 → T (finite (of_fields binary32 s f t)) → scaled k (of_fields binary32 s f t) < 2 ^ 64 → f ≤ 190 - k
unfolding of_fields
fields_le k s zero t K q h = zero-le
fields_le k s (suc y) t K q h = go (eqb (suc y) 255) q h
  where
    small : (190 ≤ y + k → ⊥) → suc y ≤ 190 - k
    small f = omega arith

    much : (2 ^ 23 + t) * 2 ^ y * 2 ^ k < 2 ^ 64 * 2 ^ 149 → 190 ≤ y + k → ⊥
    much h l = lt_irrefl (2 ^ 64 * 2 ^ 149) (lt_of_le_of_lt (le_trans (lit≤ {n = 2 ^ 23 * 2 ^ 190} tt) (le_trans (mul-le-mul (le-add_right (2 ^ 23) t) (pow_mono l)) (le_of_eq (sym (powers (2 ^ 23 + t) y k))))) h)

    go : (b : Bool) → T (finite (cond b (cond (eqb t 0) (inf s) nan) (odd 24 s (2 ^ 23 + t) y 149))) → scaled k (cond b (cond (eqb t 0) (inf s) nan) (odd 24 s (2 ^ 23 + t) y 149)) < 2 ^ 64 → suc y ≤ 190 - k
    go true q h = absurd (no_number (eqb t 0) s q)
    go false q h = small (much ((div-lt_iff_lt-mul (lit< tt)).0 (subst (λ (z : ℕ). z < 2 ^ 64) (scaled_value k (odd 24 s (2 ^ 23 + t) y 149) s ((2 ^ 23 + t) * 2 ^ y) (2 ^ 149) (lit< tt) (odd_sign 24 s (2 ^ 23 + t) y 149)) h)))

normal : (k : ℕ) (s : Bool) (y t : ℕ) → y ≤ 190 → scaled k (of_fields binary32 s (suc y) t) ≡ (2 ^ 23 + t) * 2 ^ (y + k) / 2 ^ 149
unfolding of_fields
normal k s y t h = rw (ne_eqb (suc y) 255 far) (scaled_value k (odd 24 s (2 ^ 23 + t) y 149) s ((2 ^ 23 + t) * 2 ^ y) (2 ^ 149) (lit< tt) (odd_sign 24 s (2 ^ 23 + t) y 149) ∙ ap (λ (z : ℕ). z / 2 ^ 149) (powers (2 ^ 23 + t) y k))
  where
    far : suc y ≡ 255 → ⊥
    far e = omega arith

-- where the shift is by 64 or more, nothing is left
fields_small : (k : ℕ) (s : Bool) (f t : ℕ) → k ≤ 100 → t < 2 ^ 23 → 64 ≤ 190 - k - f → 0 ≡ scaled k (of_fields binary32 s f t)
unfolding of_fields
fields_small k s zero t K h l =
    sym (scaled_value k (odd 24 s t 0 149) s (t * 2 ^ 0) (2 ^ 149) (lit< tt) (odd_sign 24 s t 0 149)
    ∙ div-eq_of_lt (lt_of_le_of_lt (mul-le-mul_left (t * 2 ^ 0) (pow_mono K)) (lt_of_lt_of_le (mul-lt-mul_of_pos_right (mul-lt-mul_of_pos_right h (pow_pos 0)) (pow_pos 100)) (lit≤ tt))))
fields_small k s (suc y) t K h l =
    sym (normal k s y t (few y k l)
    ∙ div-eq_of_lt (lt_of_le_of_lt (mul-le-mul_left (2 ^ 23 + t) (pow_mono (low y k l))) (lt_of_lt_of_le (mul-lt-mul_of_pos_right (less t h) (pow_pos 125)) (lit≤ tt))))
  where
    few : (y k : ℕ) → 64 ≤ 190 - k - suc y → y ≤ 190
    few y k l = omega arith

    low : (y k : ℕ) → 64 ≤ 190 - k - suc y → y + k ≤ 125
    low y k l = omega arith

    less : (t : ℕ) → t < 2 ^ 23 → 2 ^ 23 + t < 2 ^ 24
    less t h = omega arith

fields_large : (k : ℕ) (s : Bool) (f t : ℕ) → k ≤ 100 → f ≤ 190 - k → 190 - k - f < 64 → (t + 2 ^ 23) * 2 ^ 40 / 2 ^ (190 - k - f) ≡ scaled k (of_fields binary32 s f t)
fields_large k s zero t K h l = absurd (none k K l)
  where
    none : (k : ℕ) → k ≤ 100 → 190 - k - zero < 64 → ⊥
    none k K l = omega arith
fields_large k s (suc y) t K h l =
    let d = 2 ^ 23 + t in
    let n = 190 - k - suc y in
    ap (λ (z : ℕ). z * 2 ^ 40 / 2 ^ n) (add_comm t (2 ^ 23))
    ∙ div_same (d * 2 ^ 40) (2 ^ n) (d * 2 ^ (y + k)) (2 ^ 149) (pow_pos n) (lit< tt)
    (mul_assoc d (2 ^ 40) (2 ^ 149) ∙ ap (λ (z : ℕ). d * z) (ap (λ (z : ℕ). 2 ^ z) (sym (all y k h)) ∙ pow-add 2 (y + k) n) ∙ sym (mul_assoc d (2 ^ (y + k)) (2 ^ n)))
    ∙ sym (normal k s y t (few y k h))
  where
    few : (y k : ℕ) → suc y ≤ 190 - k → y ≤ 190
    few y k h = omega arith

    all : (y k : ℕ) → suc y ≤ 190 - k → y + k + (190 - k - suc y) ≡ 189
    all y k h = omega arith

-- ---- by its bit pattern, as the code takes it apart
abbrev pub bits : Float → ℕ
bits x = bit_and (to_bits binary32 x) 2147483647

abbrev pub digits : Float → ℕ
digits x = bit_and (bits x) 8388607

by_fields : (x : Float) → T (fits binary32 x) → of_fields binary32 (leb (2 ^ 31) (to_bits binary32 x)) (bits x / 2 ^ 23) (digits x) ≡ x
unfolding of_bits
by_fields x t =
    let b = to_bits binary32 x in
    let s : Bool = leb (2 ^ 31) b in
    ap (λ (z : ℕ). of_fields binary32 s (bits x / 2 ^ 23) z) (and_mask (bits x) 23)
    ∙ ap (λ (z : ℕ). of_fields binary32 s (z / 2 ^ 23) (z % 2 ^ 23)) (and_mask b 31)
    ∙ ap (λ (z : ℕ). of_fields binary32 s (b % 2 ^ 31 / 2 ^ 23) z) (mod-mod-pow b 8 23)
    ∙ of_bits-to_bits binary32 x t

module _ (k : ℕ) (x : Float) (K : k ≤ 100) (t : T (fits binary32 x)) where
  pub exponent_le : T (finite x) → scaled k x < 2 ^ 64 → bits x / 2 ^ 23 ≤ 190 - k
  exponent_le q h = fields_le k (leb (2 ^ 31) (to_bits binary32 x)) (bits x / 2 ^ 23) (digits x) K (subst (λ (z : Float). T (finite z)) (sym (by_fields x t)) q) (subst (λ (z : Float). scaled k z < 2 ^ 64) (sym (by_fields x t)) h)

  pub scaled_small : 64 ≤ 190 - k - bits x / 2 ^ 23 → 0 ≡ scaled k x
  scaled_small h = fields_small k (leb (2 ^ 31) (to_bits binary32 x)) (bits x / 2 ^ 23) (digits x) K (mask_lt (bits x) 23) h ∙ ap (scaled k) (by_fields x t)

  pub scaled_large : bits x / 2 ^ 23 ≤ 190 - k → 190 - k - bits x / 2 ^ 23 < 64 → (digits x + 2 ^ 23) * 2 ^ 40 / 2 ^ (190 - k - bits x / 2 ^ 23) ≡ scaled k x
  scaled_large l h = fields_large k (leb (2 ^ 31) (to_bits binary32 x)) (bits x / 2 ^ 23) (digits x) K l h ∙ ap (scaled k) (by_fields x t)

-- 24 digits put at the top fill 64 bits
pub digits_fit : (t : ℕ) → t < 2 ^ 23 → (t + 2 ^ 23) * 2 ^ 40 < 2 ^ 64
digits_fit t h = omega arith
