use mathlib.Core.Path.{◌≡◌, refl, sym, ap, ◌∙◌, subst}
use mathlib.Core.Logic.{◌⊎◌, inl, inr}
use mathlib.Core.Bool.{Bool, true, false, ◌&&◌, ◌||◌, beq, true≢false}
use Prim.Native.Nat.{ℕ, zero, suc, ◌+◌, ◌-◌, ◌*◌, ◌/◌, ◌^◌, ◌≤◌, ◌<◌}
use native.Mathlib.Nat.{eq-zero-or-pos, le_of_eq, lt_irrefl, lt_of_lt_of_le, zero-lt-suc, zero-mul, mul-pos, div-one}
use native.Mathlib.Omega.{arith}
use borrow.Author.Tests.{ltb-true, ltb-false, eqb-true}
use lib.IntN.{ℤ, pos}
use lib.Dec.{T, eqb, lt→ltb, lit≤}
use lib.Pow.{pow_pos}
use lib.Ieee.{Float, nan, inf, fin, binary32, up, down, lt, eq, div, fits, size, of_bits, to_bits}
use lib.Ieee.Bits.{of_bits-to_bits}
use lib.Ieee.Digits.{size-le}
use lib.Ieee.Exact.{HasValue}
use lib.Ieee.Fits.{up_pos, kept-lt}
use lib.Ieee.Positive.{positive, value_pos}
use Rattle.root.specs.Root.{sqrt_of}
use Rattle.arith.specs.Floats.{scaled}
use Rattle.arith.proofs.ScaledLaws.{scaled_exact, scaled_below, bits_of}
use Rattle.root.proofs.Floats.{number}
use Rattle.root.proofs.sqrt.Goals as goal
use Rattle.root.proofs.sqrt.Goals.{Start}

abbrev zero32 : Float
zero32 = fin false 0 (pos 0)

literal : of_bits binary32 0 ≡ zero32
unfolding of_bits
literal = refl

-- a zero's size as a fraction is 0
none : (u d : ℕ) → zero * u * d ≡ 0
none u d = ap (λ (n : ℕ). n * d) (zero-mul u) ∙ zero-mul d

-- what is above 0 is infinite, or has a size
above_zero : (x : Float) → lt zero32 x ≡ true → (x ≡ inf false) ⊎ T (positive x)
unfolding lt
above_zero nan q = absurd (true≢false (sym q))
above_zero (inf true) q = absurd (true≢false (sym q))
above_zero (inf false) q = inl refl
above_zero (fin true m e) q = absurd (true≢false (sym q))
above_zero (fin false zero e) q = absurd (lt_irrefl 0 (subst (λ (n : ℕ). n < 0) (none 1 (down e)) (subst (λ (n : ℕ). 0 * 1 * down e < n) (none (up e) 1) (ltb-true (0 * 1 * down e) (zero * up e * 1) q))))
above_zero (fin false (suc m) e) q = inr (lt→ltb 0 (suc m) (zero-lt-suc m))

-- a size that is not 0 is not 0's
sized : (m : ℕ) (e : ℤ) → suc m * up e * 1 ≤ 0 * 1 * down e → ⊥
sized m e h = lt_irrefl 0 (lt_of_lt_of_le (mul-pos (mul-pos (zero-lt-suc m) (up_pos e)) (zero-lt-suc 0)) (subst (λ (n : ℕ). suc m * up e * 1 ≤ n) (none 1 (down e)) h))

-- what equals 0 is its own root
zero_root : (x : Float) → eq x zero32 ≡ true → x ≡ sqrt_of x
unfolding eq sqrt_of
zero_root nan q = absurd (true≢false (sym q))
zero_root (inf s) q = absurd (true≢false (sym q))
zero_root (fin s zero e) q = refl
zero_root (fin s (suc m) e) q = absurd (sized m e (le_of_eq (eqb-true (suc m * up e * 1) (0 * 1 * down e) (first (eqb (suc m * up e * 1) (0 * 1 * down e)) (beq s false || eqb (suc m * up e * 1) 0) q))))
  where
    first : (a b : Bool) → (a && b) ≡ true → a ≡ true
    first true b q = refl
    first false b q = q

-- what is neither has none
no_root : (x : Float) → lt zero32 x ≡ false → eq x zero32 ≡ false → nan ≡ sqrt_of x
unfolding lt eq sqrt_of
no_root nan p q = refl
no_root (inf true) p q = refl
no_root (inf false) p q = absurd (true≢false p)
no_root (fin true zero e) p q = absurd (true≢false (rw (none (up e) 1, none 1 (down e)) at q))
no_root (fin false zero e) p q = absurd (true≢false (rw (none (up e) 1, none 1 (down e)) at q))
no_root (fin true (suc m) e) p q = refl
no_root (fin false (suc m) e) p q = absurd (sized m e (ltb-false (0 * 1 * down e) (suc m * up e * 1) p))

-- the bits of a finite number above 0 lie between those of 0 and of infinity
finite_bits : (x : Float) → T (positive x) → T (fits binary32 x) → (0 < to_bits binary32 x) × (to_bits binary32 x < 2139095040)
finite_bits nan p t = absurd p
finite_bits (inf s) p t = absurd p
finite_bits (fin true m e) p t = absurd p
finite_bits (fin false zero e) p t = absurd p
finite_bits (fin false (suc m) e) p t =
    subst (λ (b : ℕ). (0 < b) × (b < 2139095040)) (sym (bits_of x n v))
    (some (eq-zero-or-pos k), within k (n / 2 ^ k) (short (size n) (size-le n 277 (scaled_below m e 149 (lit≤ tt) t))) (kept-lt 24 n))
  where
    x : Float
    x = fin false (suc m) e

    n : ℕ
    n = scaled 149 x

    k : ℕ
    k = size n - 24

    v : HasValue x false n (2 ^ 149)
    v = scaled_exact false (suc m) e 149 (lit≤ tt) t

    least : (a q : ℕ) → 0 < q → 0 < 0 + a + q
    least a q h = omega arith

    within : (k q : ℕ) → k ≤ 253 → q < 2 ^ 24 → 0 + k * 8388608 + q < 2139095040
    within k q h l = omega arith

    short : (z : ℕ) → z ≤ 277 → z - 24 ≤ 253
    short z h = omega arith

    some : (k ≡ 0) ⊎ (0 < k) → 0 < 0 + k * 8388608 + n / 2 ^ k
    some (inl z) = subst (λ (j : ℕ). 0 < 0 + k * 8388608 + n / 2 ^ j) (sym z) (least (k * 8388608) (n / 1) (subst (λ (q : ℕ). 0 < q) (sym (div-one n)) (value_pos x n (2 ^ 149) p (pow_pos 149) v)))
    some (inr l) = omega arith

infinity_bits : to_bits binary32 (inf false) ≡ 2139095040
unfolding to_bits
infinity_bits = refl

infinity_root : (x : Float) → T (fits binary32 x) → to_bits binary32 x ≡ 2139095040 → x ≡ sqrt_of x
unfolding of_bits sqrt_of
infinity_root x t e = let i : x ≡ inf false = sym (of_bits-to_bits binary32 x t) ∙ ap (of_bits binary32) e in i ∙ ap sqrt_of (sym i)

zero_by_zero : div binary32 zero32 zero32 ≡ nan
unfolding div
zero_by_zero = refl

-- an argument is an f32
held : (c : Start) → T (fits binary32 c.args.x)
held c = rw c.well_formed.0.1 tt

pub float_to_bits-b : goal.float_to_bits-b
float_to_bits-b c = number (of_bits binary32 0) c.args.x c.if-x.true

-- between 0 and infinity
inner : (x : Float) → T (fits binary32 x) → lt (of_bits binary32 0) x ≡ true → (to_bits binary32 x ≡ 2139095040 → ⊥) → (0 < to_bits binary32 x) × (to_bits binary32 x < 2139095040)
inner x t l n = go (above_zero x (rw literal at l))
  where
    go : (x ≡ inf false) ⊎ T (positive x) → (0 < to_bits binary32 x) × (to_bits binary32 x < 2139095040)
    go (inl e) = absurd (n (ap (to_bits binary32) e ∙ infinity_bits))
    go (inr p) = finite_bits x p t

pub root_of_bits-requires : goal.root_of_bits-requires
root_of_bits-requires c =
    let r = inner c.args.x (held (goal.at.root_of_bits-requires c).Start) c.if-x.true c.if-b-eq-INFINITY.false in
    record { fact_1 = r.0; fact_2 = r.1 }

pub returns-then-b-eq-INFINITY : goal.returns-then-b-eq-INFINITY
returns-then-b-eq-INFINITY c = infinity_root c.args.x (held (goal.at.returns-then-b-eq-INFINITY c).Start) c.if-b-eq-INFINITY.true

pub returns-else-b-eq-INFINITY : goal.returns-else-b-eq-INFINITY
returns-else-b-eq-INFINITY c = c.root_of_bits.ensures ∙ ap sqrt_of (of_bits-to_bits binary32 c.args.x (held (goal.at.returns-else-b-eq-INFINITY c).Start))

pub returns-then-x-2 : goal.returns-then-x-2
returns-then-x-2 c = zero_root c.args.x (rw literal at c.if-x-2.true)

pub returns-else-x-2 : goal.returns-else-x-2
returns-else-x-2 c = rw literal (zero_by_zero ∙ no_root c.args.x (rw literal at c.if-x.false) (rw literal at c.if-x-2.false))
