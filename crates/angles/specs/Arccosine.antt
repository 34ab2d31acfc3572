-- The arccosine: the least step k such that the cosine series half a step above it is not above the argument, by a computed test. No guess, no special case: 0, tiny arguments and -1, 1 go the same way.
use Rattle.std.specs.Prelude.{ℕ, ◌+◌, Bool, true, false, cond, nat_le, Float}
use Rattle.std.specs.Float.{nan}
use Rattle.std.specs.Float.Ieee.{lt}
use Rattle.arith.specs.Floats.{scaled}
use Rattle.angles.specs.Series.{square, power, cos_plus, cos_minus}
use Rattle.angles.specs.Least.{least}
use Rattle.angles.specs.Grid.{half, in_steps, zero32, one32, within}

-- the half turn, in steps, cut
abbrev pub acos_top : ℕ
acos_top = 13176794

-- the cosine's added and taken terms half a step above k
abbrev pub plus_at : ℕ → ℕ
plus_at k = cos_plus (power (half k))

abbrev pub minus_at : ℕ → ℕ
minus_at k = cos_minus (square (half k)) (power (half k))

-- the cosine series half a step above k is above t * 2 ^ -57, negated where s is true, by more than the evaluation can have lost: t + 65 + minus ≤ plus, and minus + 64 ≤ plus + t
abbrev pub acos_low : Bool → ℕ → ℕ → ℕ
acos_low false t k = t + 65 + minus_at k
acos_low true t k = minus_at k + 64

abbrev pub acos_high : Bool → ℕ → ℕ → ℕ
acos_high false t k = plus_at k
acos_high true t k = plus_at k + t

unfoldable pub above : Bool → ℕ → ℕ → Bool
above s t k = nat_le (acos_low s t k) (acos_high s t k)

unfoldable pub acos_steps : Bool → ℕ → ℕ
acos_steps s t = least (above s t) acos_top

-- no answer is negative, and 1 gives +0; -0 is as +0. Outside -1 to 1, and at NaN: NaN
unfoldable pub acos_of : Float → Float
acos_of x = cond (within one32 x) (in_steps false (acos_steps (lt x zero32) (scaled 57 x))) nan
