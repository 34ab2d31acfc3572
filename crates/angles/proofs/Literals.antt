-- For the five functions and their units: the code's float literals, as the definitions write them. Assumes nothing.
use Rattle.std.proofs.Common.{◌≡◌, false, pos, negsuc, refl}
use lib.Ieee.{nan, fin, binary32, of_bits, of_fields, odd, div}
use lib.Count.{count_trailing_zeros}
use Rattle.angles.specs.Grid.{zero32, one32}
use Rattle.angles.specs.SinCos.{four32}

pub lit_0 : of_bits binary32 0 ≡ zero32
unfolding of_bits of_fields odd
lit_0 = refl

pub lit_1 : of_bits binary32 1065353216 ≡ one32
unfolding of_bits of_fields odd count_trailing_zeros
lit_1 = refl

pub lit_23 : of_bits binary32 1258291200 ≡ fin false 1 (pos 23)
unfolding of_bits of_fields odd count_trailing_zeros
lit_23 = refl

pub lit_22 : of_bits binary32 880803840 ≡ fin false 1 (negsuc 21)
unfolding of_bits of_fields odd count_trailing_zeros
lit_22 = refl

pub zero_by_zero : div binary32 (of_bits binary32 0) (of_bits binary32 0) ≡ nan
unfolding of_bits of_fields odd div
zero_by_zero = refl

pub lit_4 : of_bits binary32 1082130432 ≡ four32
unfolding of_bits of_fields odd count_trailing_zeros
lit_4 = refl

-- 2 ^ -30
pub lit_30 : of_bits binary32 813694976 ≡ fin false 1 (negsuc 29)
unfolding of_bits of_fields odd count_trailing_zeros
lit_30 = refl
