-- A whole number below 2 ^ 32, rounded to an f32, is off by at most 128. Assumes nothing.
use Rattle.std.proofs.Common.{◌≡◌, ℕ, suc, ◌+◌, ◌-◌, ◌*◌, ◌/◌, ◌%◌, ◌^◌, ◌<◌, ◌≤◌, false, not, T, eqb, pos, sym, subst, le_trans, le_refl, lt_of_lt_of_le, lt_of_le_of_lt, le_of_lt, add-le-add, mul-le-mul_right, mod-lt, suc-mul, add-mul, mul-le-mul_left, mul-lt-mul_of_pos_right, one-mul, div-add-mod', div-le_self, arith, lit<, lit≤, eqb→eq, leb→le, pow_pos, pow_mono}
use Prim.Native.Nat.{compare, Ordering}
use native.Mathlib.Nat.{lt_of_mul-lt-mul_left}
use lib.Arith.{lt_of_le-ne}
use lib.Dec.{is_le, compare_is_eq, nleb→lt, eqb_refl}
use lib.Ieee.{binary32, nearest, of_int, size}
use lib.Ieee.Digits.{size-le}
use lib.Ieee.Exact.{HasValue}
use lib.Ieee.Nearest.{closest}
use lib.Ieee.Order.{drop}
use lib.Ieee.Scale.{grid, round_val}

abbrev Cmp : Ordering → ℕ → ℕ → Type 0
Cmp Ordering.lt a b = a < b
Cmp Ordering.eq a b = a ≡ b
Cmp Ordering.gt a b = b < a

cmp : (a b : ℕ) → Cmp (compare a b) a b
cmp a b = go (compare a b) (leb→le a b) (nleb→lt a b) (eqb→eq a b) (λ (e : a ≡ b). subst (λ (x : ℕ). T (eqb a x)) e (eqb_refl a))
  where
    go : (o : Ordering) → (T (is_le o) → a ≤ b) → (T (not (is_le o)) → b < a) → (T (compare_is_eq o) → a ≡ b) → (a ≡ b → T (compare_is_eq o)) → Cmp o a b
    go Ordering.lt h k e n = lt_of_le-ne (h tt) n
    go Ordering.eq h k e n = e tt
    go Ordering.gt h k e n = k tt

abbrev Half : ℕ → ℕ → ℕ → Type 0
Half c a b = (2 * (c * b) ≤ 2 * a + b) × (2 * a ≤ 2 * (c * b) + b)

by_order : (a b q r : ℕ) (o : Ordering) → q * b + r ≡ a → r < b → Cmp o (r * 2) b → Half (nearest q o) a b
by_order a b q r Ordering.lt e l h = (omega (arith, e), omega (arith, e))
by_order a b q r Ordering.eq e l h = tie (q % 2) (even_odd q)
  where
    even_odd : (q : ℕ) → q % 2 ≤ 1
    even_odd q = omega arith

    tie : (p : ℕ) → p ≤ 1 → Half (q + p) a b
    tie p k = let d : (q + p) * b ≡ q * b + p * b = add-mul q p b in let f : p * b ≤ 1 * b = mul-le-mul_right b k in (omega (arith, d, f, e), omega (arith, d, e))
by_order a b q r Ordering.gt e l h = let d : suc q * b ≡ q * b + b = suc-mul q b in (omega (arith, d, e), omega (arith, d, e))

closest_half : (a b : ℕ) → 0 < b → Half (closest a b) a b
closest_half a b B = by_order a b (a / b) (a % b) (compare (a % b * 2) b) (div-add-mod' a b) (mod-lt a B) (cmp (a % b * 2) b)

pub rounded : (m : ℕ) → m < 2 ^ 32 → (2 * grid binary32 m 1 ≤ 2 * (m * 2 ^ 149) + 2 ^ 157) × (2 * (m * 2 ^ 149) ≤ 2 * grid binary32 m 1 + 2 ^ 157)
rounded m h =
    let n = m * 2 ^ 149 in
    let k = drop 24 n 1 in
    let c = closest n (1 * 2 ^ k) in
    let e : 1 * 2 ^ k ≡ 2 ^ k = one-mul (2 ^ k) in
    let p : Half c n (2 ^ k) = subst (λ (u : ℕ). Half c n u) e (closest_half n (1 * 2 ^ k) (subst (λ (u : ℕ). 0 < u) (sym e) (pow_pos k))) in
    let l : 2 ^ k ≤ 2 ^ 157 = pow_mono (few (size (n / 1)) (size-le (n / 1) 181 (lt_of_le_of_lt (div-le_self n 1) (lt_of_lt_of_le (mul-lt-mul_of_pos_right h (pow_pos 149)) (lit≤ tt))))) in
    (le_trans p.0 (add-le-add (le_refl (2 * n)) l), le_trans p.1 (add-le-add (le_refl (2 * (c * 2 ^ k))) l))
  where
    few : (s : ℕ) → s ≤ 181 → s - 24 ≤ 157
    few s h = omega arith

-- as an f32: the value is v / 2 ^ 149, and v is within 128 * 2 ^ 149 of m * 2 ^ 149
pub rounded_value : (m : ℕ) → m < 2 ^ 32 → HasValue (of_int binary32 (pos m)) false (grid binary32 m 1) (2 ^ 149)
unfolding of_int
rounded_value m h = round_val binary32 m 1 (under (grid binary32 m 1) (m * 2 ^ 149) (rounded m h).0 (mul-lt-mul_of_pos_right h (pow_pos 149)))
  where
    under : (v n : ℕ) → 2 * v ≤ 2 * n + 2 ^ 157 → n < 2 ^ 32 * 2 ^ 149 → v < 2 ^ 277
    under v n h k = lt_of_mul-lt-mul_left 2 (lt_of_le_of_lt (le_trans h (add-le-add (mul-le-mul_left 2 (le_of_lt k)) (le_refl (2 ^ 157)))) (lit< tt))
