-- What the test |x| ≤ 2 ^ i says of a number, and that number in units of 2 ^ -j. Assumes nothing.
use Rattle.std.proofs.Common.{◌≡◌, ℕ, ◌+◌, ◌*◌, ◌^◌, ◌<◌, ◌≤◌, Bool, true, false, not, ◌&&◌, ◌||◌, T, eqb, ltb, leb, ℤ, pos, sym, refl, ap, ◌∙◌, true≢false, zero-le, le_trans, le_of_eq, lt_of_le_of_lt, le_of_lt, mul-le-mul_right, mul_comm, mul-pos, one-mul, mul-one, mul_right_comm, div-mul-le_self, le_of_mul-le-mul_right, arith, lit<, pow_pos, pow_mono, pow-add, ltb-false, ltb-true, lt-ltb, eq-eqb, eqb-true, le-leb, leb-true}
use lib.Arith.{lt_of_le-ne}
use lib.Ieee.{Float, nan, inf, fin, up, down, neg, lt, le, eq, is_nan}
use lib.Ieee.Scale.{finite}
use lib.Ieee.Fits.{down_pos}
use borrow.Author.Tests.{lt-leb}
use Rattle.angles.specs.Series.{Near}
use Rattle.angles.proofs.Error.{over}
use Rattle.angles.specs.Grid.{within}
use Rattle.arith.specs.Floats.{scaled}

at_most : (y c : ℕ) (e : Bool) → (e ≡ true → y ≡ c) → (y ≡ c → e ≡ true) → (ltb y c || (e && true)) ≡ leb y c
at_most y c e f g = go (ltb y c) refl e refl
  where
    go : (b : Bool) → ltb y c ≡ b → (d : Bool) → e ≡ d → (b || (d && true)) ≡ leb y c
    go true q d r = sym (le-leb y c (le_of_lt (ltb-true y c q)))
    go false q true r = sym (le-leb y c (le_of_eq (f r)))
    go false q false r = sym (lt-leb y c (lt_of_le-ne (ltb-false y c q) (λ (z : c ≡ y). true≢false (sym (g (sym z)) ∙ r))))

-- the test, on the number's fraction
pub within_is : (i : ℕ) (s : Bool) (m : ℕ) (e : ℤ) → within (fin false 1 (pos i)) (fin s m e) ≡ leb (m * up e) (2 ^ i * down e)
unfolding within le lt eq neg
within_is i s m e = go s
  where
    y : ℕ
    y = m * up e * 1

    c : ℕ
    c = 1 * 2 ^ i * down e

    c_pos : 0 < c
    c_pos = mul-pos (mul-pos (lit< tt) (pow_pos i)) (down_pos e)

    plain : leb y c ≡ leb (m * up e) (2 ^ i * down e)
    plain = rw (mul-one (m * up e), one-mul (2 ^ i))

    and_true : (b : Bool) → (b && true) ≡ b
    and_true true = refl
    and_true false = refl

    go : (s : Bool) → within (fin false 1 (pos i)) (fin s m e) ≡ leb (m * up e) (2 ^ i * down e)
    go false = rw (lt-ltb 0 (c + y) (omega (arith, c_pos))) (at_most y c (eqb y c) (eqb-true y c) (eq-eqb y c) ∙ plain)
    go true = rw (lt-ltb 0 (y + c) (omega (arith, c_pos))) (and_true (ltb y c || (eqb c y && true)) ∙ at_most y c (eqb c y) (λ (h : eqb c y ≡ true). sym (eqb-true c y h)) (λ (h : y ≡ c). eq-eqb c y (sym h)) ∙ plain)

pub within_finite : (i : ℕ) (x : Float) → within (fin false 1 (pos i)) x ≡ true → T (finite x)
unfolding within le lt eq neg
within_finite i nan q = true≢false (sym q)
within_finite i (inf true) q = true≢false (sym q)
within_finite i (inf false) q = true≢false (sym q)
within_finite i (fin s m e) q = tt

pub finite_number : (x : Float) → T (finite x) → T (not (is_nan x))
unfolding is_nan
finite_number nan h = h
finite_number (inf s) h = tt
finite_number (fin s m e) h = tt

-- ---- the argument in units
pub scaled_near : (j : ℕ) (s : Bool) (m : ℕ) (e : ℤ) → Near (2 ^ j) (m * up e) (down e) (scaled j (fin s m e)) 1
unfolding scaled
scaled_near j s m e =
    let a = m * up e in
    let k : a * 2 ^ j ≡ 2 ^ j * a = mul_comm a (2 ^ j) in
    (le_trans (div-mul-le_self (a * 2 ^ j) (down e)) (le_of_eq k), le_trans (le_of_eq (sym k)) (over (a * 2 ^ j) (down e) (down_pos e)))

pub scaled_le : (i j : ℕ) (x : Float) → within (fin false 1 (pos i)) x ≡ true → scaled j x ≤ 2 ^ (i + j)
unfolding scaled
scaled_le i j nan q = zero-le
scaled_le i j (inf s) q = zero-le
scaled_le i j (fin s m e) q =
    le_of_mul-le-mul_right {k = down e} (le_trans (div-mul-le_self (m * up e * 2 ^ j) (down e)) (le_trans (mul-le-mul_right (2 ^ j) (leb-true (m * up e) (2 ^ i * down e) (sym (within_is i s m e) ∙ q))) (le_of_eq room))) (down_pos e)
  where
    room : 2 ^ i * down e * 2 ^ j ≡ 2 ^ (i + j) * down e
    room = mul_right_comm (2 ^ i) (down e) (2 ^ j) ∙ ap (λ (z : ℕ). z * down e) (sym (pow-add 2 i j))

-- what the code's `scaled_by` asks
pub scaled_asked : (i j : ℕ) → i + j ≤ 63 → (x : Float) → within (fin false 1 (pos i)) x ≡ true → (j ≤ 100) × (T (finite x) × (scaled j x < 2 ^ 64))
scaled_asked i j h x q = (omega arith, (within_finite i x q, lt_of_le_of_lt (le_trans (scaled_le i j x q) (pow_mono h)) (lit< tt)))
