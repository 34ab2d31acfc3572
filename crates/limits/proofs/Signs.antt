-- For `entries_within`: tests of signed numbers: the sign of an `or`, and a test turned round. Assumes nothing.
use mathlib.Core.Path.{◌≡◌, refl}
use mathlib.Core.Bool.{Bool, true, false, ◌&&◌, not}
use Prim.Native.Nat.{ℕ, ◌^◌}
use native.Mathlib.Omega.{arith}
use lib.Bits.{bit_or, or_lt, or_add_and, and_le_l, and_le_r}
use lib.Dec.{leb, ltb, leb-zero}
use lib.IntN.{ℤ, pos, negsuc}
use lib.Signed.{le_z, lt_z}
use mir.Syntax.{Width}
use mir.Val.{hbits, sel, to_z}
use borrow.Author.Tests.{ltb-true, ltb-false, lt-ltb, le-ltb, le-leb, lt-leb}

module _ (k a b : ℕ) where
  or_below : (s t : Bool) → ltb a (2 ^ k) ≡ s → ltb b (2 ^ k) ≡ t → ltb (bit_or a b) (2 ^ k) ≡ (s && t)
  or_below true true p q = lt-ltb (bit_or a b) (2 ^ k) (or_lt k a b (ltb-true a (2 ^ k) p) (ltb-true b (2 ^ k) q))
  or_below true false p q = le-ltb (bit_or a b) (2 ^ k) (omega (arith, ltb-false b (2 ^ k) q, or_add_and a b, and_le_l a b))
  or_below false t p q = le-ltb (bit_or a b) (2 ^ k) (omega (arith, ltb-false a (2 ^ k) p, or_add_and a b, and_le_r a b))

sign : (s : Bool) (n m : ℕ) → le_z (pos 0) (sel s (pos n) (negsuc m)) ≡ s
sign true n m = leb-zero n
sign false n m = refl

-- an `or` is below 0 where one of the two is
pub or_sign : (w : Width) (a b : ℕ) → le_z (pos 0) (to_z w (bit_or a b)) ≡ (le_z (pos 0) (to_z w a) && le_z (pos 0) (to_z w b))
or_sign w a b = simp sign (or_below (hbits w) a b _ _ refl refl)

at_most : (m n : ℕ) (s : Bool) → ltb n m ≡ s → leb m n ≡ not s
at_most m n true e = lt-leb m n (ltb-true n m e)
at_most m n false e = le-leb m n (ltb-false n m e)

pub not_above : (n : ℕ) (x : ℤ) → le_z x (pos n) ≡ not (lt_z (pos n) x)
not_above n (pos m) = at_most m n _ refl
not_above n (negsuc m) = refl
