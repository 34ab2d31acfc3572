-- The sums that the laws use are the series, term by term. Assumes nothing.
use Rattle.std.proofs.Common.{◌≡◌, ℕ, zero, suc, ◌+◌, ◌-◌, ◌*◌, ◌/◌, ◌^◌, Bool, true, ◌&&◌, T, eqb, List, [], ◌∷◌, length, sym, refl, ap, ◌∙◌, mul_assoc, mul_comm, add-mul, one-mul, pow-suc, mul-zero, zero-mul, mul-one, mul-add, mul_left_comm, arith, eqb→eq, pow-add}
use native.Mathlib.Nat.{pow-zero}
use lib.Ieee.Fits.{and_l, and_r}
use Rattle.angles.specs.Series.{factorial, every_fourth, sum_of, fourth, d24, d25, cos_plus_terms, cos_minus_terms, sin_plus_terms, sin_minus_terms, sin_up, sin_down, sin_den, cos_up, cos_down, cos_den}

-- ---- small powers
pub pow_1 : (a : ℕ) → a ^ 1 ≡ a
pow_1 a = pow-suc a 0 ∙ ap (λ (w : ℕ). w * a) (pow-zero a) ∙ one-mul a

pub pow_2 : (a : ℕ) → a ^ 2 ≡ a * a
pow_2 a = pow-suc a 1 ∙ ap (λ (w : ℕ). w * a) (pow_1 a)

pub pow_3 : (a : ℕ) → a ^ 3 ≡ a * (a * a)
pow_3 a = pow-suc a 2 ∙ ap (λ (w : ℕ). w * a) (pow_2 a) ∙ mul_assoc a a a

-- ---- the terms

-- the coefficients are d! / p!, d! / (p + 4)!, ..
unfoldable coefficients : ℕ → ℕ → List ℕ → Bool
unfolding factorial
coefficients d p [] = true
coefficients d p (c ∷ cs) = eqb c (factorial d / factorial p) && coefficients d (p + 4) cs

pow_4 : (b r : ℕ) → b ^ (r + 4) ≡ b ^ r * fourth b
pow_4 b r = pow-add b r 4 ∙ ap (λ (w : ℕ). b ^ r * w) four
  where
    turn : (b : ℕ) → b * (b * b) * b ≡ b * b * (b * b)
    turn b = simp mul_assoc

    four : b ^ 4 ≡ fourth b
    four = pow-suc b 3 ∙ ap (λ (w : ℕ). w * b) (pow_3 b) ∙ turn b

pow_fourth : (b n r : ℕ) → fourth b ^ n * b ^ r ≡ b ^ (4 * n + r)
pow_fourth b zero r = ap (λ (w : ℕ). w * b ^ r) (pow-zero (fourth b)) ∙ one-mul (b ^ r) ∙ ap (λ (w : ℕ). b ^ w) (none r)
  where
    none : (r : ℕ) → r ≡ 4 * 0 + r
    none r = omega arith
pow_fourth b (suc n) r = ap (λ (w : ℕ). w * b ^ r) (pow-suc (fourth b) n) ∙ turn (fourth b ^ n) (fourth b) (b ^ r) ∙ ap (λ (w : ℕ). fourth b ^ n * w) (sym (pow_4 b r)) ∙ pow_fourth b n (r + 4) ∙ ap (λ (w : ℕ). b ^ w) (more n r)
  where
    turn : (k m s : ℕ) → k * m * s ≡ k * (s * m)
    turn k m s = simp (mul_assoc, mul_comm, mul_left_comm)

    more : (n r : ℕ) → 4 * n + (r + 4) ≡ 4 * suc n + r
    more n r = omega arith

-- a list of such coefficients is those terms, where the last of them has b ^ r
terms : (d p r a b : ℕ) (cs : List ℕ) → T (coefficients d p cs) → p + 4 * length cs + r ≡ d + 4 → a ^ p * sum_of cs (fourth a) (fourth b) * b ^ r ≡ every_fourth d p (length cs) a b
unfolding sum_of every_fourth coefficients
terms d p r a b [] t e = ap (λ (w : ℕ). w * b ^ r) (mul-zero (a ^ p)) ∙ zero-mul (b ^ r)
terms d p r a b (c ∷ cs) t e =
    let k = length cs in
    let s = sum_of cs (fourth a) (fourth b) in
    split (a ^ p) c (fourth b ^ k) (fourth a) s (b ^ r)
    ∙ ap (λ (w : ℕ). c * (a ^ p * w) + a ^ p * fourth a * s * b ^ r) (pow_fourth b k r ∙ ap (λ (w : ℕ). b ^ w) (left p k r d e))
    ∙ ap (λ (w : ℕ). w * (a ^ p * b ^ (d - p)) + a ^ p * fourth a * s * b ^ r) (eqb→eq c (factorial d / factorial p) (and_l (eqb c (factorial d / factorial p)) (coefficients d (p + 4) cs) t))
    ∙ ap (λ (w : ℕ). factorial d / factorial p * (a ^ p * b ^ (d - p)) + w) (ap (λ (w : ℕ). w * s * b ^ r) (sym (pow_4 a p)) ∙ terms d (p + 4) r a b cs (and_r (eqb c (factorial d / factorial p)) (coefficients d (p + 4) cs) t) (onward p k r d e))
  where
    split : (x c m y s z : ℕ) → x * (c * m + y * s) * z ≡ c * (x * (m * z)) + x * y * s * z
    split x c m y s z = simp (mul-add, add-mul, mul_assoc, mul_comm, mul_left_comm)

    left : (p k r d : ℕ) → p + 4 * suc k + r ≡ d + 4 → 4 * k + r ≡ d - p
    left p k r d e = omega arith

    onward : (p k r d : ℕ) → p + 4 * suc k + r ≡ d + 4 → p + 4 + 4 * k + r ≡ d + 4
    onward p k r d e = omega arith

-- x - x^3/3! + x^5/5! - .. + x^25/25!
pub sin_up_is : (a b : ℕ) → sin_up a b ≡ every_fourth 25 1 7 a b
unfolding sin_up coefficients factorial
sin_up_is a b = shape a (sum_of sin_plus_terms (fourth a) (fourth b)) b ∙ terms 25 1 0 a b sin_plus_terms tt refl
  where
    shape : (a s b : ℕ) → a * s ≡ a ^ 1 * s * b ^ 0
    shape a s b = simp (pow_1, pow-zero, mul-one)

pub sin_down_is : (a b : ℕ) → sin_down a b ≡ every_fourth 25 3 6 a b
unfolding sin_down coefficients factorial
sin_down_is a b = shape a (sum_of sin_minus_terms (fourth a) (fourth b)) b ∙ terms 25 3 2 a b sin_minus_terms tt refl
  where
    shape : (a s b : ℕ) → a * (a * a) * s * (b * b) ≡ a ^ 3 * s * b ^ 2
    shape a s b = simp (pow_2, pow_3)

pub sin_den_is : (b : ℕ) → sin_den b ≡ factorial 25 * b ^ 25
unfolding sin_den factorial
sin_den_is b = shape b d25 (fourth b ^ 6) ∙ ap (λ (w : ℕ). d25 * w) (pow_fourth b 6 1)
  where
    shape : (b d m : ℕ) → b * (d * m) ≡ d * (m * b ^ 1)
    shape b d m = rw pow_1 (simp (mul_comm, mul_left_comm))

-- 1 - x^2/2! + x^4/4! - .. + x^24/24!
pub cos_up_is : (a b : ℕ) → cos_up a b ≡ every_fourth 24 0 7 a b
unfolding cos_up coefficients factorial
cos_up_is a b = shape a (sum_of cos_plus_terms (fourth a) (fourth b)) b ∙ terms 24 0 0 a b cos_plus_terms tt refl
  where
    shape : (a s b : ℕ) → s ≡ a ^ 0 * s * b ^ 0
    shape a s b = simp (pow-zero, one-mul, mul-one)

pub cos_down_is : (a b : ℕ) → cos_down a b ≡ every_fourth 24 2 6 a b
unfolding cos_down coefficients factorial
cos_down_is a b = shape a (sum_of cos_minus_terms (fourth a) (fourth b)) b ∙ terms 24 2 2 a b cos_minus_terms tt refl
  where
    shape : (a s b : ℕ) → a * a * s * (b * b) ≡ a ^ 2 * s * b ^ 2
    shape a s b = simp pow_2

pub cos_den_is : (b : ℕ) → cos_den b ≡ factorial 24 * b ^ 24
unfolding factorial
cos_den_is b = shape d24 (fourth b ^ 6) b ∙ ap (λ (w : ℕ). d24 * w) (pow_fourth b 6 0)
  where
    shape : (d m b : ℕ) → d * m ≡ d * (m * b ^ 0)
    shape d m b = simp (pow-zero, mul-one)
