-- For `float` and `bits`: which patterns and which floats are NaN.
use mathlib.Core.Path.{◌≡◌, refl, sym, ap, subst, ◌∙◌}
use mathlib.Core.Bool.{Bool, true, not}
use Prim.Native.Nat.{ℕ, ◌%◌, ◌<◌, ◌≤◌}
use native.Mathlib.Omega.{arith}
use lib.Dec.{T}
use lib.Ieee.{Float, nan, inf, fin, binary32, is_nan, nan_bits, of_bits, to_bits, div}
use lib.Ieee.Bits.{nan_bits_is, nan_bits_above}
use borrow.Author.Tests.{lt-ltb, le-ltb}

is_nan_lem : (x : Float) → is_nan x ≡ true → x ≡ nan
unfolding is_nan
is_nan_lem nan e = refl
is_nan_lem (inf s) e = let z : ◌≡◌ {A = ℕ} 0 1 = cc in absurd (omega arith)
is_nan_lem (fin s m k) e = let z : ◌≡◌ {A = ℕ} 0 1 = cc in absurd (omega arith)

pub pattern_nan : (w : ℕ) → 0x7f80_0000 < w % 0x8000_0000 → nan ≡ of_bits binary32 w
pattern_nan w h = sym (is_nan_lem (of_bits binary32 w) (sym (nan_bits_is binary32 w) ∙ nan_bits_above binary32 w ∙ lt-ltb _ _ h))

-- no number over no number
pub nan_pattern : (w : ℕ) → 0x7f80_0000 < w % 0x8000_0000 → div binary32 (of_bits binary32 0) (of_bits binary32 0) ≡ of_bits binary32 w
unfolding div of_bits
nan_pattern = pattern_nan

pub pattern_no_nan : (w : ℕ) → w % 0x8000_0000 ≤ 0x7f80_0000 → T (not (nan_bits binary32 w))
pattern_no_nan w h = subst (λ (t : Bool). T (not t)) (sym (nan_bits_above binary32 w ∙ le-ltb _ _ h)) tt

pub nan_has_bits : (x : Float) → is_nan x ≡ true → 0x7fc0_0000 ≡ to_bits binary32 x
unfolding to_bits
nan_has_bits x e = sym (ap (to_bits binary32) (is_nan_lem x e))
