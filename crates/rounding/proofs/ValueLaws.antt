-- That `units` is the exact value of the bits, rounded: a number's value is a whole number of 2 ^ -149, and its units are that times t, over 2 ^ 149, to the nearest. Assumes nothing.
use mathlib.Core.Path.{◌≡◌, refl, sym, ap, ◌∙◌}
use mathlib.Core.Bool.{Bool, true, false, cond}
use Prim.Native.Nat.{ℕ, zero, suc, ◌+◌, ◌-◌, ◌*◌, ◌/◌, ◌%◌, ◌^◌, ◌<◌, ◌≤◌}
use native.Mathlib.Omega.{arith}
use native.Mathlib.Nat.{add-zero, add_comm, add-mul, mul_assoc, mul-div-mul_right, mul-div_cancel, mul-mod_left, mul-le-mul_right, mod-lt}
use lib.Arith.{mod-mul}
use lib.Pow as Pow
use lib.Dec.{ltb, eqb, lit<}
use lib.Ieee.{binary32, of_fields, of_bits}
use lib.Ieee.Exact.{HasValue, odd_sign}
use borrow.Author.Tests.{ltb-true, ltb-false, lt-ltb, le-ltb, ne_eqb}
use Rattle.rounding.specs.Decimals.{nearest, units, fraction_of, exponent_of, below_of, significand, field}

-- the value of the bits, by sign, significand and exponent field
by_field : (s : Bool) (f x : ℕ) → (x ≡ 255 → ⊥) → HasValue (of_fields binary32 s x f) s (significand f x * 2 ^ (field x - 1)) (2 ^ 149)
unfolding of_fields
by_field s f zero h = odd_sign 24 s f 0 149
by_field s f (suc x) h =
    let some : eqb (suc x) 0 ≡ false = ne_eqb (suc x) 0 (λ z. omega arith) in
    let less : suc x - 1 ≡ x = omega arith in
    rw (ne_eqb (suc x) 255 h, some, less, add_comm f (2 ^ 23)) (odd_sign 24 s (2 ^ 23 + f) x 149)

pub value_of_bits : (w : ℕ) → (exponent_of w ≡ 255 → ⊥) → HasValue (of_bits binary32 w) (below_of w) (significand (fraction_of w) (exponent_of w) * 2 ^ (field (exponent_of w) - 1)) (2 ^ 149)
unfolding of_bits
value_of_bits w h = rw (Pow.field w 8 23) (by_field (below_of w) (fraction_of w) (exponent_of w) h)

-- numerator and denominator times c
same_test : (p r b c : ℕ) → b < 2 → 0 < c → ltb (p * c) (2 * (r * c) + b) ≡ ltb p (2 * r + b)
same_test p r b c h k = by_test (ltb p (2 * r + b)) refl
  where
    twice : 2 * r * c ≡ 2 * (r * c)
    twice = mul_assoc 2 r c

    by_test : (t : Bool) → ltb p (2 * r + b) ≡ t → ltb (p * c) (2 * (r * c) + b) ≡ t
    by_test true e =
        let less : p < 2 * r + b = ltb-true _ _ e in
        lt-ltb _ _ (below b h less)
      where
        below : (b : ℕ) → b < 2 → p < 2 * r + b → p * c < 2 * (r * c) + b
        below zero j l = let one = add-mul p 1 c in let step : (p + 1) * c ≤ 2 * r * c = mul-le-mul_right c (omega arith) in omega (arith, twice)
        below (suc zero) j l = let step : p * c ≤ 2 * r * c = mul-le-mul_right c (omega arith) in omega (arith, twice)
        below (suc (suc n)) j l = absurd (omega arith)
    by_test false e =
        let more : 2 * r + b ≤ p = ltb-false _ _ e in
        le-ltb _ _ (above b h more)
      where
        above : (b : ℕ) → b < 2 → 2 * r + b ≤ p → 2 * (r * c) + b ≤ p * c
        above zero j l = let step : 2 * r * c ≤ p * c = mul-le-mul_right c (omega arith) in omega (arith, twice)
        above (suc zero) j l = let one = add-mul (2 * r) 1 c in let step : (2 * r + 1) * c ≤ p * c = mul-le-mul_right c (omega arith) in omega (arith, twice)
        above (suc (suc n)) j l = absurd (omega arith)

nearest_scaled : (n p c : ℕ) → 0 < p → 0 < c → nearest (n * c) (p * c) ≡ nearest n p
nearest_scaled n p c h k =
    let q : n * c / (p * c) ≡ n / p = mul-div-mul_right n p k in
    let r : n * c % (p * c) ≡ n % p * c = mod-mul (n * c) h k ∙ rw (mul-div_cancel n k, mul-mod_left n c, add-zero) in
    rw (q, r, same_test p (n % p) ((n / p) % 2) c (mod-lt (n / p) (lit< tt)) k)

-- a whole number is its own nearest
nearest_whole : (n p : ℕ) → 1 < p → nearest (n * p) p ≡ n
nearest_whole n p h =
    let q : n * p / p ≡ n = mul-div_cancel n (omega arith) in
    let few : n % 2 < 2 = mod-lt n (lit< tt) in
    rw (q, mul-mod_left n p, le-ltb p (2 * 0 + n % 2) (omega arith))

pub units_value : (m e t : ℕ) → 1 ≤ e → units m e t ≡ nearest (m * t * 2 ^ (e - 1)) (2 ^ 149)
units_value m e t h = by_size (ltb e 150) refl
  where
    by_size : (b : Bool) → ltb e 150 ≡ b → cond b (nearest (m * t) (2 ^ (150 - e))) (m * t * 2 ^ (e - 150)) ≡ nearest (m * t * 2 ^ (e - 1)) (2 ^ 149)
    by_size true k =
        let small : e < 150 = ltb-true _ _ k in
        let sum : (150 - e) + (e - 1) ≡ 149 = omega arith in
        sym (nearest_scaled (m * t) (2 ^ (150 - e)) (2 ^ (e - 1)) (Pow.pow_pos (150 - e)) (Pow.pow_pos (e - 1))) ∙ ap (nearest (m * t * 2 ^ (e - 1))) (sym (Pow.pow-add 2 (150 - e) (e - 1)) ∙ ap (λ (n : ℕ). 2 ^ n) sum)
    by_size false k =
        let large : 150 ≤ e = ltb-false _ _ k in
        let sum : e - 1 ≡ (e - 150) + 149 = omega arith in
        let parts : m * t * 2 ^ (e - 1) ≡ m * t * 2 ^ (e - 150) * 2 ^ 149 = ap (λ (n : ℕ). m * t * 2 ^ n) sum ∙ ap (λ (n : ℕ). m * t * n) (Pow.pow-add 2 (e - 150) 149) ∙ sym (mul_assoc (m * t) (2 ^ (e - 150)) (2 ^ 149)) in
        sym (ap (λ (n : ℕ). nearest n (2 ^ 149)) parts ∙ nearest_whole (m * t * 2 ^ (e - 150)) (2 ^ 149) (lit< tt))
