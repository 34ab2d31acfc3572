-- For `over` and what it calls: the bits of the nearest f32, from a quotient of 24 digits and a count of doublings. Assumes nothing.
use mathlib.Core.Path.{◌≡◌, refl, sym, ap, ◌∙◌}
use mathlib.Core.Bool.{Bool, true, false}
use mathlib.Core.Logic.{◌⊎◌, inl, inr}
use Prim.Native.Nat.{ℕ, ◌+◌, ◌-◌, ◌*◌, ◌/◌, ◌%◌, ◌^◌, ◌≤◌, ◌<◌, compare}
use native.Mathlib.Nat.{zero-mul, zero-div, mul_comm, mul_assoc, mul_right_comm, le_trans, le_of_eq, le_antisymm, lt_of_not-le, lt_irrefl, lt_of_lt_of_le, lt_of_le_of_lt, eq-or-lt_of_le, mul-le-mul_right, mul-lt-mul_of_pos_right, mul-pos, le-mul_of_pos_right, le-div_iff_mul-le, div-lt_iff_lt-mul, mul-div_cancel}
use native.Mathlib.Omega.{arith}
use lib.Dec.{lit<}
use lib.Pow.{pow_pos, pow_mono, pow-lt, pow-add, shl_lt, shl-shr}
use lib.Ieee.{Float, nan, inf, fin, binary32, up, down, size, units, round, to_bits}
use lib.Ieee.Digits.{size-lt, size-le}
use lib.Ieee.Fits.{core, round_is, nearest-le, down_pos}
use lib.Ieee.Nearest.{closest, closest_same, nearest-ge}
use lib.Ieee.Exact.{HasValue, units_val}
use Rattle.rounding.specs.Decimals.{nearest}
use Rattle.parse.specs.Nearest.{nearest_of}

-- ---- doubling

pub double : (n t x : ℕ) → x ≡ n * 2 ^ t → 2 * x ≡ n * 2 ^ (t + 1)
double n t x e = ap (λ (y : ℕ). 2 * y) e ∙ mul_comm 2 (n * 2 ^ t) ∙ mul_assoc n (2 ^ t) 2 ∙ ap (λ (y : ℕ). n * y) (sym (pow-add 2 t 1))

pub times_below : (n t x : ℕ) → 0 < n → x ≡ n * 2 ^ t → x < 2 ^ 47 → t < 47
times_below n t x h e k =
    lt_of_not-le (λ (g : 47 ≤ t).
    let a : 2 ^ 47 ≤ 2 ^ t = pow_mono g in
    let b : 2 ^ t ≤ n * 2 ^ t = le_trans (le-mul_of_pos_right (2 ^ t) h) (le_of_eq (mul_comm (2 ^ t) n)) in
    omega arith)

-- ---- bits

size_is : (m j z : ℕ) → z ≡ j + 1 → 2 ^ j ≤ m → m < 2 ^ z → size m ≡ z
size_is m j z e lo hi =
    le_antisymm (size-le m z hi)
    (le_trans (le_of_eq (omega arith)) (lt_of_not-le (λ (g : size m ≤ j). lt_irrefl m (lt_of_lt_of_le (size-lt m) (le_trans (pow_mono g) lo)))))

bits_by : ℕ → ℕ → ℕ
bits_by w k = k * 2 ^ 23 + w / 2 ^ k

-- of w of the smallest values
bits_value : (v : Float) (w : ℕ) → HasValue v false w (2 ^ 149) → to_bits binary32 v ≡ bits_by w (size w - 24)
unfolding to_bits bits_by
bits_value nan w h = absurd h
bits_value (inf s) w h = absurd h
bits_value (fin true m e) w h = let z : ◌≡◌ {A = Bool} true false = h.0 in let o : ◌≡◌ {A = ℕ} 0 1 = cc in absurd (omega arith)
bits_value (fin false m e) w h =
    let is : m * up e * 2 ^ 149 / down e ≡ w = ap (λ (y : ℕ). y / down e) h.1 ∙ mul-div_cancel w (down_pos e) in
    rw is (omega arith)

-- of a significand of 24 digits, or the next power
bits_units : (q k : ℕ) → k ≤ 149 → 2 ^ 23 ≤ q → q ≤ 2 ^ 24 → to_bits binary32 (units binary32 false q k) ≡ k * 2 ^ 23 + q
unfolding bits_by
bits_units q k kp lo hi = bits_value (units binary32 false q k) (q * 2 ^ k) (units_val binary32 false q k fine) ∙ go (eq-or-lt_of_le hi)
  where
    fine : q * 2 ^ k < 2 ^ 277
    fine = lt_of_lt_of_le (shl_lt 25 k (omega arith)) (pow_mono {i = 25 + k} {j = 277} (omega arith))

    least : 2 ^ (23 + k) ≤ q * 2 ^ k
    least = le_trans (le_of_eq (pow-add 2 23 k)) (mul-le-mul_right (2 ^ k) lo)

    go : (q ≡ 2 ^ 24) ⊎ (q < 2 ^ 24) → bits_by (q * 2 ^ k) (size (q * 2 ^ k) - 24) ≡ k * 2 ^ 23 + q
    go (inr less) =
        let z : size (q * 2 ^ k) - 24 ≡ k = ap (λ (y : ℕ). y - 24) (size_is (q * 2 ^ k) (23 + k) (24 + k) (omega arith) least (shl_lt 24 k less)) ∙ omega arith in
        rw (z, shl-shr q k)
    go (inl e) =
        let w : q * 2 ^ k ≡ 2 ^ (24 + k) = ap (λ (y : ℕ). y * 2 ^ k) e ∙ sym (pow-add 2 24 k) in
        let z : size (q * 2 ^ k) - 24 ≡ k + 1 = ap (λ (y : ℕ). size y - 24) w ∙ ap (λ (y : ℕ). y - 24) (size_is (2 ^ (24 + k)) (24 + k) (25 + k) (omega arith) (le_of_eq refl) (pow-lt (omega arith))) ∙ omega arith in
        let v : 2 ^ (24 + k) ≡ 2 ^ 23 * 2 ^ (k + 1) = ap (λ (y : ℕ). 2 ^ y) {x = 24 + k} {y = 23 + (k + 1)} (omega arith) ∙ pow-add 2 23 (k + 1) in
        let d : q * 2 ^ k / 2 ^ (k + 1) ≡ 2 ^ 23 = ap (λ (y : ℕ). y / 2 ^ (k + 1)) (w ∙ v) ∙ shl-shr (2 ^ 23) (k + 1) in
        rw (z, d) (omega arith)

-- ---- the division

-- std's closest whole number to a quotient is the one that `rounding` gives
pub closest_by : (n p : ℕ) → 0 < p → nearest n p ≡ closest n p
closest_by n p h = grind arith

-- ---- the nearest f32 to n / d, where n doubled k times has a quotient of 24 digits

module _ (n d k x : ℕ) (dp : 0 < d) (kp : k ≤ 149) (e : x ≡ n * 2 ^ k) (lo : d * 2 ^ 23 ≤ x) (hi : x < d * 2 ^ 24) where
  whole : n * 2 ^ 149 ≡ x * 2 ^ (149 - k)
  whole =
      ap (λ (y : ℕ). n * 2 ^ y) {x = 149} {y = k + (149 - k)} (omega arith)
      ∙ ap (λ (y : ℕ). n * y) (pow-add 2 k (149 - k))
      ∙ sym (mul_assoc n (2 ^ k) (2 ^ (149 - k)))
      ∙ ap (λ (y : ℕ). y * 2 ^ (149 - k)) (sym e)

  digits : size (n * 2 ^ 149 / d) - 24 ≡ 149 - k
  digits =
      let j = 149 - k in
      let low : 2 ^ (23 + j) * d ≤ n * 2 ^ 149 =
      le_trans (le_of_eq (ap (λ (y : ℕ). y * d) (pow-add 2 23 j) ∙ mul_right_comm (2 ^ 23) (2 ^ j) d ∙ ap (λ (y : ℕ). y * 2 ^ j) (mul_comm (2 ^ 23) d)))
      (le_trans (mul-le-mul_right (2 ^ j) lo) (le_of_eq (sym whole))) in
      let high : n * 2 ^ 149 < 2 ^ (24 + j) * d =
      lt_of_le_of_lt (le_of_eq whole)
      (lt_of_lt_of_le (mul-lt-mul_of_pos_right hi (pow_pos j))
      (le_of_eq (sym (ap (λ (y : ℕ). y * d) (pow-add 2 24 j) ∙ mul_right_comm (2 ^ 24) (2 ^ j) d ∙ ap (λ (y : ℕ). y * 2 ^ j) (mul_comm (2 ^ 24) d))))) in
      ap (λ (y : ℕ). y - 24) (size_is (n * 2 ^ 149 / d) (23 + j) (24 + j) (omega arith) ((le-div_iff_mul-le dp).1 low) ((div-lt_iff_lt-mul dp).1 high)) ∙ omega arith

  rounded : round binary32 false n d ≡ units binary32 false (closest x d) (149 - k)
  rounded =
      round_is binary32 false n d
      ∙ ap (λ (y : ℕ). core binary32 false (n * 2 ^ 149) d y) digits
      ∙ ap (λ (y : ℕ). units binary32 false y (149 - k))
      (closest_same (n * 2 ^ 149) (d * 2 ^ (149 - k)) x d (mul-pos dp (pow_pos (149 - k))) dp
      (ap (λ (y : ℕ). y * d) whole ∙ mul_assoc x (2 ^ (149 - k)) d ∙ ap (λ (y : ℕ). x * y) (mul_comm (2 ^ (149 - k)) d)))

  quotient_low : 2 ^ 23 ≤ x / d
  quotient_low = (le-div_iff_mul-le dp).1 (le_trans (le_of_eq (mul_comm (2 ^ 23) d)) lo)

  quotient_high : x / d < 2 ^ 24
  quotient_high = (div-lt_iff_lt-mul dp).1 (lt_of_lt_of_le hi (le_of_eq (mul_comm d (2 ^ 24))))

  pub closest_low : 2 ^ 23 ≤ closest x d
  closest_low = le_trans quotient_low (nearest-ge (x / d) (compare (x % d * 2) d))

  pub closest_high : closest x d ≤ 2 ^ 24
  closest_high = le_trans (nearest-le (x / d) (compare (x % d * 2) d)) quotient_high

  pub nearest_by : (149 - k) * 2 ^ 23 + closest x d ≡ nearest_of n d
  unfolding nearest_of
  nearest_by = sym (ap (to_bits binary32) rounded ∙ bits_units (closest x d) (149 - k) (omega arith) closest_low closest_high)

-- nothing at all
pub nearest_none : (d : ℕ) → 0 < d → 0 ≡ nearest_of 0 d
unfolding nearest_of units to_bits size
nearest_none d dp =
    sym (ap (to_bits binary32)
    (round_is binary32 false 0 d
    ∙ ap (λ (y : ℕ). core binary32 false 0 d (size y - 24)) (zero-div d)
    ∙ ap (λ (y : ℕ). units binary32 false y 0) (closest_same 0 (d * 2 ^ 0) 0 1 (mul-pos dp (pow_pos 0)) (lit< tt) (sym (zero-mul (d * 2 ^ 0))))))
