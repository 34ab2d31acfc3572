-- The law of the square root: `sqrt_of` gives the nearest f32 (`sqrt_nearest`), and only one f32 is nearest (`nearest_one`). Assumes nothing.
use mathlib.Core.Path.{◌≡◌, refl, sym, ap, ◌∙◌, subst}
use mathlib.Core.Bool.{true, false, true≢false}
use Prim.Native.Nat.{ℕ, zero, suc, ◌+◌, ◌-◌, ◌*◌, ◌/◌, ◌^◌, ◌≤◌, ◌<◌}
use native.Mathlib.Nat.{lt_irrefl, le_antisymm, le_of_suc-le-suc, add_comm, le_of_lt, le_trans, one-mul, mul_assoc, le_refl, le_of_mul-le-mul_right, lt_of_mul-lt-mul_right, lt_of_lt_of_le, lt_of_not-le, not-le_of_lt, mul-le-mul_right, mul-pos, mul-div_cancel, one-le-pow, pow-suc}
use native.Mathlib.Omega.{arith}
use lib.Dec.{T, lit<, lit≤}
use lib.Pow.{pow-add, pow_mono, pow_pos, shl_lt}
use lib.Ieee.{Float, nan, inf, fin, binary32, size, units, fits, of_bits}
use lib.Ieee.Digits.{size-lt, size-le, size_reaches}
use lib.Ieee.Exact.{HasValue}
use lib.Ieee.Positive.{positive, first_pos, positive_of_value, value_pos}
use Rattle.root.proofs.NearestRootLaws.{NearestRoot, nearest_root_lem, root_range}
use Rattle.root.proofs.MidpointLaws.{square, root_over, root_under}
use Rattle.arith.proofs.ScaledLaws.{spread, scaled_of_value, scaled_exact, scaled_below, units_fit, units_value, same_value}
use Rattle.root.specs.Asked.{Nearest}
use Rattle.root.specs.Root.{nearest_root, root_of, sqrt_of}
use Rattle.arith.specs.Floats.{scaled}

-- ---- worked cases

-- "Root of 4 is 2" (document 01, "Sheets to check")
pub root_of_four : sqrt_of (of_bits binary32 0x40800000) ≡ of_bits binary32 0x40000000
unfolding sqrt_of of_bits
root_of_four = refl

-- the root of the smallest f32, 2 ^ -149
pub root_of_smallest : sqrt_of (of_bits binary32 1) ≡ of_bits binary32 0x1a3504f3
unfolding sqrt_of of_bits
root_of_smallest = refl

-- ---- the number n that the definition takes the root of

pub four_pow : (k : ℕ) → 4 ^ k ≡ 2 ^ (2 * k)
four_pow zero = refl
four_pow (suc k) = pow-suc 4 k ∙ ap (λ (x : ℕ). x * 4) (four_pow k) ∙ sym (pow-add 2 (2 * k) 2) ∙ ap (λ (x : ℕ). 2 ^ x) (two_more k)
  where
    two_more : (k : ℕ) → 2 * k + 2 ≡ 2 * suc k
    two_more k = omega arith

size_gt : (n j : ℕ) → 2 ^ j ≤ n → j < size n
size_gt n j h = lt_of_not-le (λ (g : size n ≤ j). not-le_of_lt (lt_of_lt_of_le (size-lt n) (pow_mono g)) h)

-- n is w * 4 ^ k, and w has 47 or 48 digits
pub record Leading (n k w : ℕ) : Type 0 where
  pub exact : w * 4 ^ k ≡ n
  pub least : 2 ^ 46 ≤ w
  pub most : w < 2 ^ 48

-- only one k and w are so, and they are the definition's
pub root_of_lem : (n k w : ℕ) → Leading n k w → root_of n ≡ units binary32 false (nearest_root w) k
unfolding root_of
root_of_lem n k w h = ap (λ (j : ℕ). units binary32 false (nearest_root (n / 4 ^ j)) j) digits ∙ ap (λ (v : ℕ). units binary32 false (nearest_root v) k) quotient
  where
    power : w * 2 ^ (2 * k) ≡ n
    power = ap (λ (x : ℕ). w * x) (sym (four_pow k)) ∙ h.exact

    low : 46 + 2 * k < size n
    low = size_gt n (46 + 2 * k) (subst (λ (x : ℕ). 2 ^ (46 + 2 * k) ≤ x) power (subst (λ (x : ℕ). x ≤ w * 2 ^ (2 * k)) (sym (pow-add 2 46 (2 * k))) (mul-le-mul_right (2 ^ (2 * k)) h.least)))

    high : size n ≤ 48 + 2 * k
    high = size-le n (48 + 2 * k) (subst (λ (x : ℕ). x < 2 ^ (48 + 2 * k)) power (shl_lt 48 (2 * k) h.most))

    digits : (size n - 47) / 2 ≡ k
    digits = omega (arith, low, high)

    quotient : n / 4 ^ k ≡ w
    quotient = ap (λ (x : ℕ). x / 4 ^ k) (sym h.exact) ∙ mul-div_cancel w (one-le-pow k 4 (lit< tt))

-- a number above 0 of the value n / 2 ^ 298 has the root of n
pub sqrt_of_value : (x : Float) (n : ℕ) → 0 < n → HasValue x false n (2 ^ 298) → sqrt_of x ≡ root_of n
unfolding sqrt_of
sqrt_of_value nan n p v = absurd v
sqrt_of_value (inf s) n p v = absurd v
sqrt_of_value (fin true m e) n p v = absurd (true≢false v.0)
sqrt_of_value (fin false zero e) n p v = absurd (positive_of_value (fin false zero e) n (2 ^ 298) v p)
sqrt_of_value (fin false (suc m) e) n p v = ap root_of (scaled_of_value (fin false (suc m) e) false 298 n v)

-- ---- every f32 above 0 has its k and w

leading : (m i n : ℕ) → m < 2 ^ 24 → 149 ≤ i → m * 2 ^ i ≡ n → 0 < n → n < 2 ^ 426 → (k : ℕ) × (w : ℕ) × Leading n k w × (k < 200)
leading m i n few deep e p far = (k, w, record { exact = whole; least = low; most = high }, omega (arith, size-le n 426 far))
  where
    k : ℕ
    k = (size n - 47) / 2

    some : 1 ≤ m
    some = first_pos m (2 ^ i) (subst (λ (x : ℕ). 0 < x) (sym e) p)

    w : ℕ
    w = m * 2 ^ (i - 2 * k)

    big : 149 < size n
    big = size_gt n 149 (subst (λ (x : ℕ). 2 ^ 149 ≤ x) e (le_trans (pow_mono deep) (subst (λ (x : ℕ). x ≤ m * 2 ^ i) (one-mul (2 ^ i)) (mul-le-mul_right (2 ^ i) some))))

    digits : size n ≤ 24 + i
    digits = size-le n (24 + i) (subst (λ (x : ℕ). x < 2 ^ (24 + i)) e (shl_lt 24 i few))

    back : i - 2 * k + 2 * k ≡ i
    back = omega (arith, digits, big)

    product : w * 2 ^ (2 * k) ≡ n
    product = mul_assoc m (2 ^ (i - 2 * k)) (2 ^ (2 * k)) ∙ ap (λ (x : ℕ). m * x) (sym (pow-add 2 (i - 2 * k) (2 * k)) ∙ ap (λ (x : ℕ). 2 ^ x) back) ∙ e

    whole : w * 4 ^ k ≡ n
    whole = ap (λ (x : ℕ). w * x) (four_pow k) ∙ product

    reach : 46 + 2 * k < size n
    reach = omega (arith, big)

    end : size n ≤ 48 + 2 * k
    end = omega arith

    low : 2 ^ 46 ≤ w
    low = le_of_mul-le-mul_right (subst (λ (x : ℕ). x ≤ w * 2 ^ (2 * k)) (pow-add 2 46 (2 * k)) (subst (λ (x : ℕ). 2 ^ (46 + 2 * k) ≤ x) (sym product) (size_reaches n (46 + 2 * k) reach))) (pow_pos (2 * k))

    high : w < 2 ^ 48
    high = lt_of_mul-lt-mul_right (2 ^ (2 * k)) (subst (λ (x : ℕ). w * 2 ^ (2 * k) < x) (pow-add 2 48 (2 * k)) (subst (λ (x : ℕ). x < 2 ^ (48 + 2 * k)) (sym product) (lt_of_lt_of_le (size-lt n) (pow_mono end))))

-- ---- the law

four_square : (k : ℕ) → 4 ^ k ≡ 2 ^ k * 2 ^ k
four_square k = four_pow k ∙ ap (λ (x : ℕ). 2 ^ x) (both k) ∙ pow-add 2 k k
  where
    both : (k : ℕ) → 2 * k ≡ k + k
    both k = omega arith

nearest_units : (x : Float) (k w : ℕ) → Leading (scaled 298 x) k w → k < 200 → Nearest x (units binary32 false (nearest_root w) k)
nearest_units x k w h small = record {
  above_zero = positive_of_value y (q * 2 ^ k) (2 ^ 149) value (mul-pos (lt_of_lt_of_le (lit< tt) range.0) (pow_pos k));
  is_f32 = units_fit q k range.1 small;
  over_lower = λ v t l. let s = spread 149 v (le_refl 149) t in
      subst (λ (n : ℕ). (scaled 149 v + scaled 149 y) ^ 2 < 4 * n) square_is (subst (λ (r : ℕ). r < 4 * (w * (2 ^ k * 2 ^ k))) (sum_square s.m s.i (scaled 149 v) s.product)
      (root_over k w q h.least h.most near s.m s.i s.few (subst (λ (r : ℕ). s.m * 2 ^ s.i < r) count (subst (λ (u : ℕ). u < scaled 149 y) (sym s.product) l))));
  under_higher = λ v t l. let s = spread 149 v (le_refl 149) t in
      subst (λ (n : ℕ). 4 * n < (scaled 149 v + scaled 149 y) ^ 2) square_is (subst (λ (r : ℕ). 4 * (w * (2 ^ k * 2 ^ k)) < r) (sum_square s.m s.i (scaled 149 v) s.product)
      (root_under k w q h.least h.most near s.m s.i s.few (subst (λ (r : ℕ). r < s.m * 2 ^ s.i) count (subst (λ (u : ℕ). scaled 149 y < u) (sym s.product) l))));
}
  where
    q : ℕ
    q = nearest_root w

    y : Float
    y = units binary32 false q k

    near : NearestRoot w q
    near = nearest_root_lem w (lt_of_lt_of_le (lit< tt) h.least) h.most

    range : (2 ^ 23 ≤ q) × (q ≤ 2 ^ 24)
    range = root_range w q h.least h.most near

    value : HasValue y false (q * 2 ^ k) (2 ^ 149)
    value = units_value q k range.1 small

    count : scaled 149 y ≡ q * 2 ^ k
    count = scaled_of_value y false 149 (q * 2 ^ k) value

    square_is : w * (2 ^ k * 2 ^ k) ≡ scaled 298 x
    square_is = ap (λ (n : ℕ). w * n) (sym (four_square k)) ∙ h.exact

    sum_square : (m i u : ℕ) → m * 2 ^ i ≡ u → (m * 2 ^ i + q * 2 ^ k) * (m * 2 ^ i + q * 2 ^ k) ≡ (u + scaled 149 y) ^ 2
    sum_square m i u e = ap (λ (n : ℕ). (n + q * 2 ^ k) * (n + q * 2 ^ k)) e ∙ ap (λ (n : ℕ). (u + n) * (u + n)) (sym count) ∙ sym (square (u + scaled 149 y))

-- the root of every finite f32 above 0 is the nearest
pub sqrt_nearest : (x : Float) → T (positive x) → T (fits binary32 x) → Nearest x (sqrt_of x)
unfolding sqrt_of
sqrt_nearest nan p t = absurd p
sqrt_nearest (inf s) p t = absurd p
sqrt_nearest (fin true m e) p t = absurd p
sqrt_nearest (fin false zero e) p t = absurd p
sqrt_nearest (fin false (suc m) e) p t =
    let x = fin false (suc m) e in
    let s = spread 298 x (lit≤ tt) t in
    let l = leading s.m s.i (scaled 298 x) s.few (omega (arith, s.deep)) s.product (value_pos x (scaled 298 x) (2 ^ 298) p (pow_pos 298) (scaled_exact false (suc m) e 298 (lit≤ tt) t)) (scaled_below m e 298 (lit≤ tt) t) in
    subst (λ (y : Float). Nearest x y) (sym (root_of_lem (scaled 298 x) l.0 l.1 l.2)) (nearest_units x l.0 l.1 l.2 l.3)

-- and no other f32 is
pub nearest_one : (x r s : Float) → Nearest x r → Nearest x s → r ≡ s
nearest_one x r s p q = same_value r s (scaled 149 r) p.is_f32 q.is_f32 (own r p.above_zero p.is_f32) (subst (λ (n : ℕ). HasValue s false n (2 ^ 149)) (le_antisymm (side s r q p) (side r s p q)) (own s q.above_zero q.is_f32))
  where
    own : (y : Float) → T (positive y) → T (fits binary32 y) → HasValue y false (scaled 149 y) (2 ^ 149)
    own nan a t = absurd a
    own (inf u) a t = absurd a
    own (fin true m e) a t = absurd a
    own (fin false m e) a t = scaled_exact false m e 149 (le_refl 149) t

    -- the midpoint of two would lie on both sides of the root
    clash : (r s : Float) → Nearest x r → Nearest x s → scaled 149 s < scaled 149 r → ⊥
    clash r s p q l =
        lt_irrefl (4 * scaled 298 x)
        (lt_of_lt_of_le (q.under_higher r p.is_f32 l)
        (le_of_lt (subst (λ (n : ℕ). n ^ 2 < 4 * scaled 298 x) (add_comm (scaled 149 s) (scaled 149 r)) (p.over_lower s q.is_f32 l))))

    side : (r s : Float) → Nearest x r → Nearest x s → scaled 149 r ≤ scaled 149 s
    side r s p q = le_of_suc-le-suc (lt_of_not-le (clash r s p q))
