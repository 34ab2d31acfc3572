-- The sine and the cosine of an f32: the recipe of docs/ANGLES.md. Assumes nothing.
use Rattle.std.specs.Prelude.{ℕ, ◌-◌, ◌/◌, ◌^◌, Bool, false, cond, not, pos, negsuc, nat_lt, Float}
use Rattle.std.specs.Float.{nan, fin, binary32}
use Rattle.std.specs.Float.Ieee.{mul, neg, lt, of_int}
use Rattle.arith.specs.Floats.{scaled}
use Rattle.angles.specs.Series.{square, power, sin_plus, sin_minus, cos_plus, cos_minus}
use Rattle.angles.specs.Grid.{zero32, within}

abbrev pub four32 : Float
four32 = fin false 1 (pos 2)

-- d · 2 ^ -57, cut to 30 binary places and rounded to the nearest f32; negated where s is true
unfoldable pub from_units : Bool → ℕ → Float
from_units s d = let r = mul binary32 (of_int binary32 (pos (d / 2 ^ 27))) (fin false 1 (negsuc 29)) in cond s (neg r) r

-- (p - m) · 2 ^ -57, of the terms that are added and those that are taken away; negated where s is true
unfoldable pub difference : Bool → ℕ → ℕ → Float
difference s p m = cond (nat_lt p m) (from_units (not s) (m - p)) (from_units s (p - m))

-- Sine and cosine for |angle| ≤ 4, otherwise NaN. The sine's sign is turned where x is below 0; 0 and -0 are not. An answer that is cut to 0 keeps its sign, and equal parts count as a difference
-- above 0: so the sine of 0 and of -0 is 0, of a tiny number 0, and of a tiny number below 0 it is -0.
unfoldable pub sin_of : Float → Float
sin_of x = let n = scaled 61 x in cond (within four32 x) (difference (lt x zero32) (sin_plus n) (sin_minus n)) nan

unfoldable pub cos_of : Float → Float
cos_of x = let n = scaled 61 x in cond (within four32 x) (difference false (cos_plus (power n)) (cos_minus (square n) (power n))) nan
