-- What the functions share: the test of an argument against a bound, and the grid of steps of 2 ^ -22 on which the arcs' answers lie.
use Rattle.std.specs.Prelude.{ℕ, ◌+◌, ◌*◌, ◌^◌, Bool, false, cond, ◌&&◌, pos, negsuc, Float}
use Rattle.std.specs.Float.{fin, binary32}
use Rattle.std.specs.Float.Ieee.{mul, neg, le, of_int}

-- half a step above k steps, in half steps, and times 2 ^ 61: the angle at which the arcs' tests evaluate the series
abbrev pub odd_half : ℕ → ℕ
odd_half k = 2 * k + 1

abbrev pub half : ℕ → ℕ
half k = odd_half k * 2 ^ 38

abbrev pub zero32 : Float
zero32 = fin false 0 (pos 0)

abbrev pub one32 : Float
one32 = fin false 1 (pos 0)

-- |x| ≤ w: false at NaN
unfoldable pub within : Float → Float → Bool
within w x = le (neg w) x && le x w

-- k steps, negated where s is true: 0 steps are +0 or, negated, -0
unfoldable pub in_steps : Bool → ℕ → Float
in_steps s k = let r = mul binary32 (of_int binary32 (pos k)) (fin false 1 (negsuc 21)) in cond s (neg r) r
