-- The normal curve (modes.rs, lines 585 to 596): Abramowitz and Stegun 26.2.18 up to 5.
use Rattle.std.specs.Prelude.{cond, Float}
use Rattle.std.specs.Float.Ieee.{lt}
use Rattle.arith.specs.Floats.{f32, ◌⊕◌, ◌⊖◌, ◌⊗◌, ◌⊘◌, abs_of, min_of}
use Rattle.arith.specs.Numbers.{0·0, 0·5, 1·0, 5·0}

-- the four coefficients of 26.2.18: 0.196854, 0.115194, 0.000344, 0.019527
abbrev pub c1 : Float
c1 = f32 0x3e49_9418

abbrev pub c2 : Float
c2 = f32 0x3deb_ead5

abbrev pub c3 : Float
c3 = f32 0x39b4_5ae6

abbrev pub c4 : Float
c4 = f32 0x3c9f_f716

-- lines 588 to 590 (sigdis.rs, lines 71 to 73): the part of the curve beyond x, 1/2 (1 + c1 x + c2 x² + c3 x³ + c4 x⁴)⁻⁴
unfoldable pub tail_of : Float → Float
tail_of x =
    let q = 1·0 ⊕ x ⊗ (c1 ⊕ x ⊗ (c2 ⊕ x ⊗ (c3 ⊕ x ⊗ c4))) in
    0·5 ⊗ (1·0 ⊘ (q ⊗ q ⊗ q ⊗ q))

-- line 587 (sigdis.rs, line 70): the size of the argument, clamped at 5; a NaN's is 5
unfoldable pub size_of : Float → Float
size_of y = min_of (abs_of y) 5·0

-- lines 591 to 595: the curve up to ypx
unfoldable pub fnorml_of : Float → Float
fnorml_of ypx = cond (lt ypx 0·0) (tail_of (size_of ypx)) (1·0 ⊖ tail_of (size_of ypx))
