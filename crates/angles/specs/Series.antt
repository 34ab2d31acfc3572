-- The 13-term series
--     sin x = x - x^3/3! + x^5/5! - .. + x^25/25!        cos x = 1 - x^2/2! + x^4/4! - .. + x^24/24!
-- at an angle x = a / b, as exact fractions, and their evaluation in fixed point, the recipe of docs/ANGLES.md. Every number is a natural number: the terms that are added stand apart
-- from those that are taken away.
use Rattle.std.specs.Prelude.{ℕ, zero, suc, ◌+◌, ◌-◌, ◌*◌, ◌/◌, ◌^◌, ◌≤◌, List, [], ◌∷◌, length}

-- ---- the series, term by term

unfoldable pub factorial : ℕ → ℕ
factorial zero = 1
factorial (suc n) = suc n * factorial n

-- the terms x ^ p / p!, x ^ (p + 4) / (p + 4)!, .., n of them, at x = a / b, each times d! * b ^ d: so
--     sin (a / b) = (every_fourth 25 1 7 a b - every_fourth 25 3 6 a b) / (25! * b ^ 25)
--     cos (a / b) = (every_fourth 24 0 7 a b - every_fourth 24 2 6 a b) / (24! * b ^ 24)
unfoldable pub every_fourth : (d p n a b : ℕ) → ℕ
unfolding factorial
every_fourth d p zero a b = 0
every_fourth d p (suc n) a b = factorial d / factorial p * (a ^ p * b ^ (d - p)) + every_fourth d (p + 4) n a b

-- ---- the same, as the laws use it: SeriesLaws shows that sin_up, sin_down, cos_up and cos_down are those four sums

-- c0 * m ^ k + c1 * y * m ^ (k - 1) + .. + ck * y ^ k
unfoldable pub sum_of : List ℕ → ℕ → ℕ → ℕ
sum_of [] y m = 0
sum_of (c ∷ cs) y m = c * m ^ length cs + y * sum_of cs y m

abbrev pub fourth : ℕ → ℕ
fourth a = a * a * (a * a)

-- 24!, and 24! / (4 j)! and 24! / (4 j + 2)!
abbrev pub d24 : ℕ
d24 = 620448401733239439360000

abbrev pub cos_plus_terms : List ℕ
cos_plus_terms = 620448401733239439360000 ∷ 25852016738884976640000 ∷ 15388105201717248000 ∷ 1295295050649600 ∷ 29654190720 ∷ 255024 ∷ 1 ∷ []

abbrev pub cos_minus_terms : List ℕ
cos_minus_terms = 310224200866619719680000 ∷ 861733891296165888000 ∷ 170978946685747200 ∷ 7117005772800 ∷ 96909120 ∷ 552 ∷ []

-- 25!, and 25! / (4 j + 1)! and 25! / (4 j + 3)!
abbrev pub d25 : ℕ
d25 = 15511210043330985984000000

abbrev pub sin_plus_terms : List ℕ
sin_plus_terms = 15511210043330985984000000 ∷ 129260083694424883200000 ∷ 42744736671436800000 ∷ 2490952020480000 ∷ 43609104000 ∷ 303600 ∷ 1 ∷ []

abbrev pub sin_minus_terms : List ℕ
sin_minus_terms = 2585201673888497664000000 ∷ 3077621040343449600000 ∷ 388588515194880000 ∷ 11861676288000 ∷ 127512000 ∷ 600 ∷ []

-- the sine series at a / b is (sin_up a b - sin_down a b) / sin_den b
unfoldable pub sin_up : ℕ → ℕ → ℕ
unfolding sum_of
sin_up a b = a * sum_of sin_plus_terms (fourth a) (fourth b)

unfoldable pub sin_down : ℕ → ℕ → ℕ
unfolding sum_of
sin_down a b = a * (a * a) * sum_of sin_minus_terms (fourth a) (fourth b) * (b * b)

unfoldable pub sin_den : ℕ → ℕ
sin_den b = b * (d25 * fourth b ^ 6)

-- the cosine series at a / b is (cos_up a b - cos_down a b) / cos_den b
unfoldable pub cos_up : ℕ → ℕ → ℕ
unfolding sum_of
cos_up a b = sum_of cos_plus_terms (fourth a) (fourth b)

unfoldable pub cos_down : ℕ → ℕ → ℕ
unfolding sum_of
cos_down a b = a * a * sum_of cos_minus_terms (fourth a) (fourth b) * (b * b)

abbrev pub cos_den : ℕ → ℕ
cos_den b = d24 * fourth b ^ 6

-- ---- the evaluation in fixed point

-- the upper 64 bits of a product
abbrev pub mh : ℕ → ℕ → ℕ
mh a b = a * b / 2 ^ 64

-- the sum divided by d * m ^ k, times f: v is 2 ^ 64 * y / (512 * m), cut
unfoldable pub fixed : ℕ → ℕ → List ℕ → ℕ → ℕ
fixed d f [] v = 0
fixed d f (c ∷ []) v = f * c / d
fixed d f (c ∷ (c' ∷ cs)) v = f * c / d + mh v (fixed d (512 * f) (c' ∷ cs) v)

-- n is the angle times 2 ^ 61, its square the angle's times 2 ^ 58, its cube the angle's times 2 ^ 57, its power the angle's fourth times 2 ^ 55
abbrev pub square : ℕ → ℕ
square n = mh n n

abbrev pub cube : ℕ → ℕ
cube n = mh n (square n) * 4

abbrev pub power : ℕ → ℕ
power n = mh (square n) (square n) * 8

-- 2 ^ 57 times the sine's terms that are added, and those that are taken away
unfoldable pub sin_plus : ℕ → ℕ
unfolding fixed
sin_plus n = mh n (fixed d25 (2 ^ 60) sin_plus_terms (power n))

unfoldable pub sin_minus : ℕ → ℕ
unfolding fixed
sin_minus n = mh (cube n) (fixed d25 (2 ^ 64) sin_minus_terms (power n))

-- the same of the cosine: v is the power of n, z its square
unfoldable pub cos_plus : ℕ → ℕ
unfolding fixed
cos_plus v = fixed d24 (2 ^ 57) cos_plus_terms v

unfoldable pub cos_minus : ℕ → ℕ → ℕ
unfolding fixed
cos_minus z v = mh z (fixed d24 (2 ^ 63) cos_minus_terms v)

-- x is s * a / b, cut, and has lost at most e
abbrev pub Near : (s a b x e : ℕ) → Type 0
Near s a b x e = (x * b ≤ s * a) × (s * a ≤ (x + e) * b)
