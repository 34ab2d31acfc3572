-- The arctangent's recipe, of docs/ANGLES.md: over scaled whole numbers, and on f32.
use Rattle.std.specs.Prelude.{ℕ, ◌+◌, ◌/◌, ◌^◌, Bool, false, cond, pos, is_nan, nat_le, Float}
use Rattle.std.specs.Float.{nan, fin}
use Rattle.std.specs.Float.Ieee.{lt}
use Rattle.arith.specs.Floats.{scaled}
use Rattle.angles.specs.Series.{mh, square, power, sin_plus, sin_minus, cos_plus, cos_minus}
use Rattle.angles.specs.Grid.{half, zero32, within, in_steps}
use Rattle.angles.specs.Least.{least}

-- ---- over whole numbers: the argument is t * 2 ^ -40, and the series are taken half a step above k steps of 2 ^ -22

-- the tangent is below the argument, sine < argument * cosine, by more than the evaluation can have lost: in units of 2 ^ -33, without differences
unfoldable pub atan_low : ℕ → ℕ → ℕ
atan_low t k = sin_plus (half k) / 2 ^ 24 + mh t (cos_minus (square (half k)) (power (half k))) + 16

unfoldable pub atan_high : ℕ → ℕ → ℕ
atan_high t k = mh t (cos_plus (power (half k))) + sin_minus (half k) / 2 ^ 24

unfoldable pub tan_below : ℕ → ℕ → Bool
tan_below t k = nat_le (atan_low t k) (atan_high t k)

-- the last step below a quarter turn
abbrev pub atan_top : ℕ
atan_top = 6588397

-- the answer, in steps: the least at which the test fails
unfoldable pub atan_steps : ℕ → ℕ
atan_steps t = least (tan_below t) atan_top

-- ---- on f32

abbrev pub limit : Float
limit = fin false 1 (pos 23)

-- ⌊min(|x|, 2 ^ 23) · 2 ^ 40⌋, at the infinities too
unfoldable pub atan_units : Float → ℕ
atan_units x = cond (within limit x) (scaled 40 x) (2 ^ 63)

-- "arctangent of any number, infinity included"; "NaN gives NaN". The sign is the argument's: 0 and -0 give 0, and a negative argument so small that no step is left gives -0
unfoldable pub atan_of : Float → Float
atan_of x = cond (is_nan x) nan (in_steps (lt x zero32) (atan_steps (atan_units x)))
