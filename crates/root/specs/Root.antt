-- The square root of an f32: the nearest f32, by whole-number squares. Assumes nothing.
use Rattle.std.specs.Prelude.{true, false, cond, ℕ, zero, suc, ◌+◌, ◌-◌, ◌*◌, ◌/◌, ◌^◌, leb, ltb, Float}
use Rattle.std.specs.Float.{nan, inf, fin, binary32}
use Rattle.std.specs.Float.Ieee.{size, units}
use Rattle.arith.specs.Floats.{scaled}

-- r + 1 where its square is within w, else r
unfoldable pub one_more : ℕ → ℕ → ℕ
one_more w r = cond (leb ((r + 1) * (r + 1)) w) (r + 1) r

-- The whole part of the root of w, for w below 4 ^ d, digit by digit: it is twice that of w / 4, or one more.
unfoldable pub whole_root : ℕ → ℕ → ℕ
unfolding one_more
whole_root zero w = 0
whole_root (suc d) w = one_more w (2 * whole_root d (w / 4))

-- The whole number nearest to the root of w, for w below 4 ^ 24: the whole part r, or r + 1 where w is above (r + 1/2)² = r * r + r + 1/4.
unfoldable pub nearest_root : ℕ → ℕ
unfolding whole_root
nearest_root w = let r = whole_root 24 w in cond (ltb (r * r + r) w) (r + 1) r

-- The root of n, to 24 digits, in smallest values. Of n / 4 ^ k, which has 47 or 48 digits, the root has 24; 2 ^ k times that is the root of n.
unfoldable pub root_of : ℕ → Float
unfolding nearest_root size units
root_of n = let k = (size n - 47) / 2 in units binary32 false (nearest_root (n / 4 ^ k)) k

-- "Square root: the nearest f32, by whole-number squares. A number below 0 gives NaN, as does NaN; -0 gives -0 and infinity gives infinity" (document 01).
-- In smallest values the root of x is the root of x * 2 ^ 298.
unfoldable pub sqrt_of : Float → Float
unfolding scaled root_of
sqrt_of nan = nan
sqrt_of (inf s) = cond s nan (inf false)
sqrt_of (fin s zero e) = fin s zero e
sqrt_of (fin true (suc m) e) = nan
sqrt_of (fin false (suc m) e) = root_of (scaled 298 (fin false (suc m) e))
