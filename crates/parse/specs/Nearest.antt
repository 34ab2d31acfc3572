-- What a number of a command becomes: the nearest f32, rounded once from the exact quotient of two whole numbers.
use Rattle.std.specs.Prelude.{ℕ, false}
use Rattle.std.specs.Float.{binary32}
use Rattle.std.specs.Float.Ieee.{round, to_bits}

-- n / d, to the nearest f32, ties to even, by its bits
unfoldable pub nearest_of : ℕ → ℕ → ℕ
nearest_of n d = to_bits binary32 (round binary32 false n d)

-- a number is read in thousandths
abbrev pub in_units : ℕ → ℕ
in_units n = nearest_of n 1000

-- a length is read in thousandths of a kilometre; ghop is an angle at the Earth's centre, and its radius is 6,370 km
abbrev pub in_radians : ℕ → ℕ
in_radians n = nearest_of n 6370000
