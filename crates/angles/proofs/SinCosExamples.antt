-- The sine and the cosine at worked examples, by their bit patterns: zeros and tiny numbers of either sign, 1 and -1, the f32 nearest to π / 2 and π, the ends, and beyond them. Assumes nothing.
use Rattle.std.proofs.Common.{◌≡◌, ℕ, List, [], ◌∷◌, refl}
use lib.Count.{count_trailing_zeros}
use lib.Ieee.{binary32, mul, neg, lt, le, eq, of_int, of_bits, of_fields, round, size, units, odd}
use Rattle.angles.specs.Series.{fixed, sin_plus, sin_minus, cos_plus, cos_minus}
use Rattle.angles.specs.Grid.{within}
use Rattle.angles.specs.SinCos.{from_units, difference, sin_of, cos_of}
use Rattle.arith.specs.Floats.{scaled}

-- an argument, its sine, its cosine
abbrev pub Rows : List (ℕ × ℕ × ℕ) → Type 0
Rows [] = Unit
Rows ((x, s, c) ∷ rows) = (sin_of (of_bits binary32 x) ≡ of_bits binary32 s) × (cos_of (of_bits binary32 x) ≡ of_bits binary32 c) × Rows rows

abbrev pub examples : List (ℕ × ℕ × ℕ)
examples =
    (0x0000_0000, 0x0000_0000, 0x3f80_0000)
    ∷ (0x8000_0000, 0x0000_0000, 0x3f80_0000)
    ∷ (0x0000_0001, 0x0000_0000, 0x3f80_0000)
    ∷ (0x8000_0001, 0x8000_0000, 0x3f80_0000)
    ∷ (0x3f80_0000, 0x3f57_6aa4, 0x3f0a_5140)
    ∷ (0xbf80_0000, 0xbf57_6aa4, 0x3f0a_5140)
    ∷ (0x3fc9_0fdb, 0x3f80_0000, 0xb338_0000)
    ∷ (0x4049_0fdb, 0xb3ba_0000, 0xbf80_0000)
    ∷ (0x4080_0000, 0xbf41_bdcf, 0xbf27_5530)
    ∷ (0xc080_0000, 0x3f41_bdcf, 0xbf27_5530)
    ∷ (0x4080_0001, 0x7fc0_0000, 0x7fc0_0000)
    ∷ (0x7f80_0000, 0x7fc0_0000, 0x7fc0_0000)
    ∷ (0x7fc0_0000, 0x7fc0_0000, 0x7fc0_0000)
    ∷ []

pub examples_hold : Rows examples
unfolding sin_of cos_of within scaled from_units difference sin_plus sin_minus cos_plus cos_minus fixed mul neg lt le eq of_int of_bits of_fields round size units odd count_trailing_zeros
examples_hold = (refl, refl, (refl, refl, (refl, refl, (refl, refl, (refl, refl, (refl, refl, (refl, refl, (refl, refl, (refl, refl, (refl, refl, (refl, refl, (refl, refl, (refl, refl, tt)))))))))))))
