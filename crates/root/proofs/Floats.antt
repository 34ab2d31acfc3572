-- For `sqrt` and its parts: what a comparison says of a float, and the value of an f32's bits. Assumes nothing.
use mathlib.Core.Path.{◌≡◌, sym, ap, ◌∙◌, subst}
use mathlib.Core.Bool.{Bool, true, false, not, true≢false}
use Prim.Native.Nat.{ℕ, suc, ◌+◌, ◌*◌, ◌/◌, ◌%◌, ◌^◌, ◌<◌}
use native.Mathlib.Nat.{mul_assoc, mul_right_comm, mod-eq_of_lt}
use native.Mathlib.Omega.{arith}
use borrow.Author.Tests.{lt-leb, ne_eqb}
use lib.Dec.{T}
use lib.Ieee.{Float, nan, inf, fin, binary32, lt, is_nan, up, down, of_fields, of_bits}
use lib.Ieee.Exact.{HasValue, odd_sign}

-- what is above something is a number
pub number : (y x : Float) → lt y x ≡ true → T (not (is_nan x))
unfolding lt is_nan
number nan nan q = absurd (true≢false (sym q))
number (inf s) nan q = absurd (true≢false (sym q))
number (fin s m e) nan q = absurd (true≢false (sym q))
number y (inf s) q = tt
number y (fin s m e) q = tt

-- ---- from one fraction to another of the same value
pub value_times : (x : Float) (s : Bool) (a c p : ℕ) → HasValue x s a c → HasValue x s (a * p) (c * p)
value_times nan s a c p v = v
value_times (inf t) s a c p v = v
value_times (fin t m e) s a c p v = (v.0, sym (mul_assoc (m * up e) c p) ∙ ap (λ (z : ℕ). z * p) v.1 ∙ mul_right_comm a (down e) p)

-- ---- the value of a pattern with no sign
read_fields : (b x t : ℕ) → b < 2147483648 → b / 8388608 ≡ x → b % 8388608 ≡ t → of_bits binary32 b ≡ of_fields binary32 false x t
unfolding of_bits
read_fields b x t h e f = rw (lt-leb 2147483648 b h, mod-eq_of_lt h, e, f)

pub normal_value : (b x t : ℕ) → x < 254 → b / 8388608 ≡ suc x → b % 8388608 ≡ t → HasValue (of_bits binary32 b) false ((8388608 + t) * 2 ^ x) (2 ^ 149)
unfolding of_fields
normal_value b x t h e f =
    subst (λ (y : Float). HasValue y false ((8388608 + t) * 2 ^ x) (2 ^ 149)) (sym (read_fields b (suc x) t (small b x h e) e f))
    (rw (ne_eqb (suc x) 255 (other x h)) (odd_sign 24 false (8388608 + t) x 149))
  where
    small : (b x : ℕ) → x < 254 → b / 8388608 ≡ suc x → b < 2147483648
    small b x h e = omega arith

    other : (x : ℕ) → x < 254 → suc x ≡ 255 → ⊥
    other x h e = omega arith

pub subnormal_value : (b : ℕ) → b < 8388608 → HasValue (of_bits binary32 b) false (b * 2 ^ 0) (2 ^ 149)
unfolding of_fields
subnormal_value b h =
    subst (λ (y : Float). HasValue y false (b * 2 ^ 0) (2 ^ 149)) (sym (read_fields b 0 b (omega arith) (omega arith) (omega arith))) (odd_sign 24 false b 0 149)
