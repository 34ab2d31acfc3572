-- The arcsine: the least step k such that the sine series half a step above it is not below the argument, by a computed test. No guess, no special case: 0, tiny arguments and 1 go the same way.
use Rattle.std.specs.Prelude.{ℕ, ◌+◌, Bool, cond, nat_le, Float}
use Rattle.std.specs.Float.{nan}
use Rattle.std.specs.Float.Ieee.{lt}
use Rattle.arith.specs.Floats.{scaled}
use Rattle.angles.specs.Series.{sin_plus, sin_minus}
use Rattle.angles.specs.Least.{least}
use Rattle.angles.specs.Grid.{half, in_steps, zero32, one32, within}

-- the quarter turn, in steps, cut
abbrev pub asin_top : ℕ
asin_top = 6588397

-- the sine series half a step above k is below t * 2 ^ -57, by more than the evaluation can have lost: plus + 64 ≤ t + minus
abbrev pub asin_low : ℕ → ℕ
asin_low k = sin_plus (half k) + 64

abbrev pub asin_high : ℕ → ℕ → ℕ
asin_high t k = t + sin_minus (half k)

unfoldable pub below : ℕ → ℕ → Bool
below t k = nat_le (asin_low k) (asin_high t k)

unfoldable pub asin_steps : ℕ → ℕ
asin_steps t = least (below t) asin_top

-- the sign is that of x; at -0 it is plus, and a negative x too small for a step gives -0. Outside -1 to 1, and at NaN: NaN
unfoldable pub asin_of : Float → Float
asin_of x = cond (within one32 x) (in_steps (lt x zero32) (asin_steps (scaled 57 x))) nan
