-- What is asked of the sine and the cosine: for |angle| ≤ 4 within 2 ^ -22 of the 13-term series, otherwise NaN. The series stand in Series.antt as exact
-- fractions, the terms that are added apart from those taken away; the sine's is odd and the cosine's even. Assumes nothing.
use Rattle.std.specs.Prelude.{◌≡◌, ℕ, ◌+◌, ◌*◌, ◌^◌, ◌<◌, ◌≤◌, Bool, true, false, Float}
use Rattle.std.specs.Float.{nan, inf, fin}
use Rattle.std.specs.Float.Ieee.{up, down}
use Rattle.angles.specs.Series.{sin_up, sin_down, sin_den, cos_den, cos_up, cos_down}

-- (p - q) / c is within 2 ^ -22 of (u - d) / k: p / c + d / k and q / c + u / k differ by no more, here multiplied by 2 ^ 22 * c * k
abbrev pub Within22 : (p q c u d k : ℕ) → Type 0
Within22 p q c u d k = (2 ^ 22 * (p * k + d * c) ≤ 2 ^ 22 * (q * k + u * c) + c * k) × (2 ^ 22 * (q * k + u * c) ≤ 2 ^ 22 * (p * k + d * c) + c * k)

-- r is a number within 2 ^ -22 of (u - d) / k
abbrev pub NearTo : Float → (u d k : ℕ) → Type 0
NearTo nan u d k = ⊥
NearTo (inf s) u d k = ⊥
NearTo (fin false m e) u d k = Within22 (m * up e) 0 (down e) u d k
NearTo (fin true m e) u d k = Within22 0 (m * up e) (down e) u d k

-- of the series at the angle a / b, negative where s is true
abbrev pub NearSine : Float → Bool → ℕ → ℕ → Type 0
NearSine r false a b = NearTo r (sin_up a b) (sin_down a b) (sin_den b)
NearSine r true a b = NearTo r (sin_down a b) (sin_up a b) (sin_den b)

abbrev pub NearCosine : Float → Bool → ℕ → ℕ → Type 0
NearCosine r s a b = NearTo r (cos_up a b) (cos_down a b) (cos_den b)

-- of the answer r at x
abbrev pub Asked : (Float → Bool → ℕ → ℕ → Type 0) → Float → Float → Type 0
Asked near nan r = r ≡ nan
Asked near (inf s) r = r ≡ nan
Asked near (fin s m e) r = (m * up e ≤ 4 * down e → near r s (m * up e) (down e)) × (4 * down e < m * up e → r ≡ nan)
