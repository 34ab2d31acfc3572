-- The vocabulary of every definition: f32 arithmetic as IEEE 754 has it, each operation rounded once, the constants of document 01 by their bits, and `abs`, `min`, `max`.
use Rattle.std.specs.Prelude.{ℕ, ◌*◌, ◌/◌, ◌^◌, false, cond, Float}
use Rattle.std.specs.Float.{nan, inf, fin, binary32}
use Rattle.std.specs.Float.Ieee.{up, down, of_bits, lt, eq}
use Rattle.std.specs.Float.Ieee as Ieee

infixl 40 ◌⊕◌ ◌⊖◌
infixl 50 ◌⊗◌ ◌⊘◌
-- x + y, x - y, x * y, x / y, rounded to the nearest f32
abbrev pub ◌⊕◌ : Float → Float → Float
◌⊕◌ = Ieee.add binary32

abbrev pub ◌⊖◌ : Float → Float → Float
◌⊖◌ = Ieee.sub binary32

abbrev pub ◌⊗◌ : Float → Float → Float
◌⊗◌ = Ieee.mul binary32

abbrev pub ◌⊘◌ : Float → Float → Float
◌⊘◌ = Ieee.div binary32

-- the f32 that a bit pattern stands for
abbrev pub f32 : ℕ → Float
f32 = of_bits binary32

-- document 01, "Constants": 6370.0, 0.01745329251, 57.295779513, 1.570796326, and for later orders 299.79246, 1.28
abbrev pub RZ : Float
RZ = f32 0x45c7_1000

abbrev pub D2R : Float
D2R = f32 0x3c8e_fa35

abbrev pub R2D : Float
R2D = f32 0x4265_2ee1

abbrev pub PIO2 : Float
PIO2 = f32 0x3fc9_0fdb

abbrev pub VOFL : Float
VOFL = f32 0x4395_e56f

abbrev pub DCL : Float
DCL = f32 0x3fa3_d70a

-- Rust's `x.abs()`: the sign is cleared, so -0 gives +0; NaN stays NaN
unfoldable pub abs_of : Float → Float
abs_of nan = nan
abs_of (inf s) = inf false
abs_of (fin s m e) = fin false m e

-- Rust's `a.min(b)` and `a.max(b)`: where one is NaN, the other. Of two zeros it is a: Rust leaves open which, and each use in the source has a number other than 0 for b.
unfoldable pub min_of : Float → Float → Float
min_of a b = cond (lt b a) b (cond (eq a a) a b)

unfoldable pub max_of : Float → Float → Float
max_of a b = cond (lt a b) b (cond (eq a a) a b)

-- the magnitude of x times 2 ^ j, cut to a whole number. An f32 is a whole number of smallest values, 2 ^ -149, so from j = 149 on nothing is cut
unfoldable pub scaled : ℕ → Float → ℕ
scaled j nan = 0
scaled j (inf s) = 0
scaled j (fin s m e) = m * up e * 2 ^ j / down e
