-- An f32 as a whole number of smallest values, 2 ^ -149. Assumes nothing.
use mathlib.Core.Path.{◌≡◌, refl, sym, ap, ◌∙◌, subst}
use mathlib.Core.Bool.{Bool, true, false, ◌&&◌, true≢false}
use Prim.Native.Nat.{ℕ, zero, suc, ◌+◌, ◌-◌, ◌*◌, ◌/◌, ◌%◌, ◌^◌, ◌≤◌, ◌<◌}
use native.Mathlib.Nat.{le_of_lt, lt_of_le_of_lt, mul-le-mul, le_of_suc-le-suc, lt_of_not-le, not-le_of_lt, mul-one, mul_assoc, mul_right_comm, mul-lt-mul_of_pos_right, lt_of_mul-lt-mul_right, mul-div_cancel, zero-mul}
use native.Mathlib.Omega.{arith}
use lib.IntN.{ℤ, pos, negsuc}
use lib.Dec.{T, leb, ltb, eqb, leb→le, ltb→lt, lit<}
use lib.Pow.{pow-add, pow-lt, pow_mono, pow_pos}
use lib.Ieee.{Float, nan, inf, fin, binary32, up, down, size, odd, units, fits, of_bits, to_bits}
use lib.Ieee.Bits.{of_bits-to_bits}
use lib.Ieee.Exact.{HasValue, units_val}
use lib.Ieee.Fits.{down_pos, and_l, and_r, odd-fits, cond-fits, inf-fits}
use Rattle.arith.specs.Floats.{scaled}

-- what `fits` says of a number that is not 0
record Held (m : ℕ) (e : ℤ) : Type 0 where
  few : m < 2 ^ 24
  deep : down e ≤ 2 ^ 149
  near : m * up e < 2 ^ 128 * down e

held : (s : Bool) (m : ℕ) (e : ℤ) → T (fits binary32 (fin s (suc m) e)) → Held (suc m) e
unfolding fits
held s m e t =
    let a = eqb (suc m % 2) 1 in
    let b = ltb (suc m) (2 ^ 24) in
    let c = leb (down e) (2 ^ 149) in
    let d = ltb (suc m * up e) (2 ^ 128 * down e) in
    record {
      few = ltb→lt (suc m) (2 ^ 24) (and_r a b (and_l (a && b) c (and_l (a && b && c) d t)));
      deep = leb→le (down e) (2 ^ 149) (and_r (a && b) c (and_l (a && b && c) d t));
      near = ltb→lt (suc m * up e) (2 ^ 128 * down e) (and_r (a && b && c) d t);
    }

-- 2 ^ e * 2 ^ j is a power of two
place : (e : ℤ) (j : ℕ) → 149 ≤ j → down e ≤ 2 ^ 149 → (i : ℕ) × (j ≤ i + 149) × ((m : ℕ) → m * up e * 2 ^ j ≡ m * 2 ^ i * down e)
place (pos a) j l h = (a + j, omega arith, λ m. mul_assoc m (2 ^ a) (2 ^ j) ∙ ap (λ (x : ℕ). m * x) (sym (pow-add 2 a j)) ∙ sym (mul-one (m * 2 ^ (a + j))))
place (negsuc a) j l h = (j - suc a, omega (arith, short), λ m. ap (λ (x : ℕ). x * 2 ^ j) (mul-one m) ∙ ap (λ (x : ℕ). m * x) (ap (λ (x : ℕ). 2 ^ x) (sym whole) ∙ pow-add 2 (j - suc a) (suc a)) ∙ sym (mul_assoc m (2 ^ (j - suc a)) (2 ^ suc a)))
  where
    short : suc a ≤ 149
    short = le_of_suc-le-suc (lt_of_not-le (λ (g : suc 149 ≤ suc a). not-le_of_lt (pow-lt g) h))

    whole : j - suc a + suc a ≡ j
    whole = omega (arith, short, l)

-- times 2 ^ j, for a j of 149 or more, it is a whole number n: a number of 24 digits, and zeros
pub record Spread (j n : ℕ) : Type 0 where
  pub m : ℕ
  pub i : ℕ
  pub few : m < 2 ^ 24
  pub deep : j ≤ i + 149
  pub product : m * 2 ^ i ≡ n

scaled_is : (s : Bool) (m : ℕ) (e : ℤ) (j n : ℕ) → m * up e * 2 ^ j ≡ n * down e → scaled j (fin s m e) ≡ n
unfolding scaled
scaled_is s m e j n h = ap (λ (x : ℕ). x / down e) h ∙ mul-div_cancel n (down_pos e)

no_size : (e : ℤ) (j : ℕ) → zero * up e * 2 ^ j ≡ zero * down e
no_size e j = ap (λ (x : ℕ). x * 2 ^ j) (zero-mul (up e)) ∙ zero-mul (2 ^ j) ∙ sym (zero-mul (down e))

nothing : (j : ℕ) → Spread j 0
nothing j = record { m = 0; i = j; few = lit< tt; deep = omega arith; product = zero-mul (2 ^ j) }

pub spread : (j : ℕ) (x : Float) → 149 ≤ j → T (fits binary32 x) → Spread j (scaled j x)
unfolding scaled
spread j nan l t = nothing j
spread j (inf s) l t = nothing j
spread j (fin s zero e) l t = subst (λ (n : ℕ). Spread j n) (sym (scaled_is s zero e j 0 (no_size e j))) (nothing j)
spread j (fin s (suc m) e) l t =
    let h = held s m e t in
    let p = place e j l h.deep in
    record { m = suc m; i = p.0; few = h.few; deep = p.1; product = sym (scaled_is s (suc m) e j (suc m * 2 ^ p.0) (p.2 (suc m))) }

-- nothing is cut
pub scaled_exact : (s : Bool) (m : ℕ) (e : ℤ) (j : ℕ) → 149 ≤ j → T (fits binary32 (fin s m e)) → HasValue (fin s m e) s (scaled j (fin s m e)) (2 ^ j)
scaled_exact s zero e j l t = (refl, no_size e j ∙ ap (λ (n : ℕ). n * down e) (sym (scaled_is s zero e j 0 (no_size e j))))
scaled_exact s (suc m) e j l t =
    let p = place e j l (held s m e t).deep in
    (refl, p.2 (suc m) ∙ ap (λ (n : ℕ). n * down e) (sym (scaled_is s (suc m) e j (suc m * 2 ^ p.0) (p.2 (suc m)))))

-- an f32 lies below 2 ^ 128
pub scaled_below : (m : ℕ) (e : ℤ) (j : ℕ) → 149 ≤ j → T (fits binary32 (fin false (suc m) e)) → scaled j (fin false (suc m) e) < 2 ^ (128 + j)
scaled_below m e j l t =
    lt_of_mul-lt-mul_right (down e)
    (subst (λ (n : ℕ). n < 2 ^ (128 + j) * down e) (scaled_exact false (suc m) e j l t).1
    (subst (λ (n : ℕ). suc m * up e * 2 ^ j < n) (mul_right_comm (2 ^ 128) (down e) (2 ^ j) ∙ ap (λ (n : ℕ). n * down e) (sym (pow-add 2 128 j)))
    (mul-lt-mul_of_pos_right (held false m e t).near (pow_pos j))))

-- it is the count of any number that has its value
pub scaled_of_value : (x : Float) (s : Bool) (j n : ℕ) → HasValue x s n (2 ^ j) → scaled j x ≡ n
scaled_of_value nan s j n v = absurd v
scaled_of_value (inf t) s j n v = absurd v
scaled_of_value (fin t m e) s j n v = scaled_is t m e j n v.1

-- ---- q * 2 ^ k smallest values, for a q of 24 digits or 2 ^ 24, are an f32
module _ (q k : ℕ) (short : q ≤ 2 ^ 24) (small : k < 200) where
  in_range : q * 2 ^ k < 2 ^ 277
  in_range = lt_of_le_of_lt (mul-le-mul short (pow_mono (le_of_lt small))) (lit< tt)

  pub units_fit : T (fits binary32 (units binary32 false q k))
  unfolding units
  units_fit = cond-fits binary32 (ltb (q * 2 ^ k) (2 ^ 277)) (odd 25 false q k 149) (inf false) (odd-fits binary32 25 false q k (omega arith) short in_range) (inf-fits binary32 false)

  pub units_value : HasValue (units binary32 false q k) false (q * 2 ^ k) (2 ^ 149)
  units_value = units_val binary32 false q k in_range

-- ---- a value has one pattern, so two f32 of one value are one
pub bits_of : (x : Float) (a : ℕ) → HasValue x false a (2 ^ 149) → to_bits binary32 x ≡ 0 + (size a - 24) * 8388608 + a / 2 ^ (size a - 24)
unfolding to_bits
bits_of nan a v = absurd v
bits_of (inf s) a v = absurd v
bits_of (fin true m e) a v = absurd (true≢false v.0)
bits_of (fin false m e) a v = ap (λ (n : ℕ). 0 + (size n - 24) * 8388608 + n / 2 ^ (size n - 24)) (ap (λ (n : ℕ). n / down e) v.1 ∙ mul-div_cancel a (down_pos e))

pub same_value : (x y : Float) (a : ℕ) → T (fits binary32 x) → T (fits binary32 y) → HasValue x false a (2 ^ 149) → HasValue y false a (2 ^ 149) → x ≡ y
same_value x y a p q v w = sym (of_bits-to_bits binary32 x p) ∙ ap (of_bits binary32) (bits_of x a v ∙ sym (bits_of y a w)) ∙ of_bits-to_bits binary32 y q
