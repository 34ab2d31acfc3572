-- Laws of the arcs' grid: half a step, the number that k steps are, and an argument's sign by the test against 0. Assumes nothing.
use Rattle.std.proofs.Common.{◌≡◌, ℕ, zero, suc, ◌+◌, ◌*◌, ◌^◌, ◌<◌, ◌≤◌, Bool, true, false, not, T, ℤ, pos, negsuc, sym, refl, ap, ◌∙◌, subst, true≢false, zero-le, le_trans, le_of_eq, lt_of_lt_of_le, le-add_right, lt_of_le_of_lt, le_of_lt, mul-le-mul_right, zero-lt-suc, mul_assoc, mul-pos, zero-mul, mul-one, arith, lit<, le-ltb, lt-ltb}
use lib.Ieee.{Float, nan, inf, fin, binary32, up, down, mul, neg, lt, le, eq, is_nan, of_int, round, size, units, odd}
use lib.Ieee.Fits.{up_pos}
use lib.Ieee.Exact.{HasValue, round_exact}
use lib.Ieee.Back.{round_whole}
use lib.Ieee.Positive.{mul_at, positive_of_value}
use Rattle.angles.specs.Series.{Near}
use Rattle.angles.specs.Grid.{odd_half, half, zero32, in_steps}

-- ---- half a step above k, times 2 ^ 61, is exact
pub half_near : (k : ℕ) → Near (2 ^ 61) (odd_half k) (2 ^ 23) (half k) 1
half_near k = (omega arith, omega arith)

-- ---- what compares is no NaN
pub not_nan_right : (y x : Float) → le y x ≡ true → T (not (is_nan x))
unfolding le lt eq is_nan
not_nan_right nan nan q = absurd (true≢false (sym q))
not_nan_right (inf s) nan q = absurd (true≢false (sym q))
not_nan_right (fin s m e) nan q = absurd (true≢false (sym q))
not_nan_right y (inf s) q = tt
not_nan_right y (fin s m e) q = tt

-- ---- k steps are the number k / 2 ^ 22
step : ℕ → Float
step k = mul binary32 (of_int binary32 (pos k)) (fin false 1 (negsuc 21))

whole : (k : ℕ) → k ≤ 2 ^ 24 → HasValue (of_int binary32 (pos k)) false k 1
unfolding of_int
whole k h = round_whole binary32 false k h

step_exact : (k : ℕ) → suc k < 2 ^ 24 → HasValue (round binary32 false (suc k * 1) (1 * 2 ^ 22)) false (suc k * 1) (1 * 2 ^ 22)
step_exact k h =
    round_exact binary32 false (suc k * 1) (1 * 2 ^ 22) (suc k) 127 (lit< tt) h (lt_of_le_of_lt (mul-le-mul_right (2 ^ 127) (le_of_lt h)) (lit< tt))
    (ap (λ (w : ℕ). w * 2 ^ 149) (mul-one (suc k)) ∙ sym (mul_assoc (suc k) (2 ^ 127) (2 ^ 22)))

zero_case : HasValue (mul binary32 (of_int binary32 (pos 0)) (fin false 1 (negsuc 21))) false 0 (2 ^ 22)
unfolding mul of_int round size units odd
zero_case = (refl, refl)

step_value : (k : ℕ) → k < 2 ^ 24 → HasValue (step k) false k (2 ^ 22)
unfolding step
step_value zero h = zero_case
step_value (suc k) h =
    let x = of_int binary32 (pos (suc k)) in
    let v = whole (suc k) (le_of_lt h) in
    subst (λ (z : Float). HasValue z false (suc k) (2 ^ 22))
    (sym (mul_at binary32 x (fin false 1 (negsuc 21)) (suc k) 1 1 (2 ^ 22) (positive_of_value x (suc k) 1 v (zero-lt-suc k)) tt (lit< tt) (lit< tt) v (refl, refl)))
    (subst (λ (w : ℕ). HasValue (round binary32 false (suc k * 1) (1 * 2 ^ 22)) false w (2 ^ 22)) (mul-one (suc k)) (step_exact k h))

negated : (x : Float) (a c : ℕ) → HasValue x false a c → HasValue (neg x) true a c
unfolding neg
negated nan a c h = h
negated (inf s) a c h = h
negated (fin s m e) a c h = (ap not h.0, h.1)

pub in_steps_value : (s : Bool) (k : ℕ) → k < 2 ^ 24 → HasValue (in_steps s k) s k (2 ^ 22)
unfolding in_steps step
in_steps_value false k h = step_value k h
in_steps_value true k h = negated (mul binary32 (of_int binary32 (pos k)) (fin false 1 (negsuc 21))) k (2 ^ 22) (step_value k h)

-- ---- the sign by the test against 0, of a number that is not 0, and of 0
pub sign_is : (s : Bool) (m : ℕ) (e : ℤ) → lt (fin s (suc m) e) zero32 ≡ s
unfolding lt
sign_is false m e = le-ltb (suc m * up e * 1) (0 * down e) (le_trans (le_of_eq (zero-mul (down e))) zero-le)
sign_is true m e = lt-ltb 0 (suc m * up e * 1 + 0 * down e) (lt_of_lt_of_le (mul-pos (mul-pos (zero-lt-suc m) (up_pos e)) (lit< tt)) (le-add_right (suc m * up e * 1) (0 * down e)))

pub sign_0 : (s : Bool) (e : ℤ) → lt (fin s zero e) zero32 ≡ false
unfolding lt
sign_0 false e = le-ltb (zero * up e * 1) (0 * down e) (le_of_eq (simp zero-mul))
sign_0 true e = le-ltb 0 (zero * up e * 1 + 0 * down e) (le_of_eq (simp zero-mul))
