-- For the functions that write a number: the parts that they write one after the other are the number's text. Assumes nothing.
use mathlib.Core.Path.{◌≡◌, refl}
use mathlib.Core.Bool.{Bool, true, false, cond}
use mathlib.Core.List.{List, [], ◌∷◌, ◌++◌, append_assoc}
use Prim.Native.Nat.{ℕ, zero, suc, ◌-◌, ◌/◌, ◌%◌, ◌^◌, ◌<◌, ◌≤◌, min}
use native.Mathlib.Omega.{arith}
use lib.ListN.{length, replicate, length-replicate}
use borrow.Author.Tests.{lt-ltb, le-ltb, eq-eqb, ne_eqb}
use Rattle.rounding.proofs.DecimalsLaws.{length_digits}
use Rattle.rounding.specs.Decimals.{digits, size_of, decimal, point, fixed, minus, signed, bound_text, named_text, right_in, tenths_text}

pub right_is : (width : ℕ) (s : List ℕ) {k n : ℕ} → n ≡ length s → k ≡ width - n → replicate k 32 ++ s ≡ right_in width s
right_is width s l e = rw (e, l)

pub bound_below : (below : Bool) (width : ℕ) {k : ℕ} → below ≡ true → k ≡ width - 2 → 60 ∷ 45 ∷ replicate k 57 ≡ bound_text below width
unfolding bound_text
bound_below below width b e = rw (b, e)

pub bound_above : (below : Bool) (width : ℕ) {k : ℕ} → below ≡ false → k ≡ width - 1 → 62 ∷ replicate k 57 ≡ bound_text below width
unfolding bound_text
bound_above below width b e = rw (b, e)

-- a bound fills its columns
bound_long : (below : Bool) (width : ℕ) → width ≤ length (bound_text below width)
unfolding bound_text
bound_long true width = simp length-replicate (omega arith)
bound_long false width = simp length-replicate (omega arith)

pub bound_right : (below : Bool) (width least : ℕ) → least ≤ width → bound_text below width ≡ right_in least (bound_text below width)
bound_right below width least h =
    let long = bound_long below width in
    let none : least - length (bound_text below width) ≡ 0 = omega arith in
    rw none

pub minus_is : (below : Bool) (n : ℕ) → below ≡ true → 0 < n → 45 ∷ [] ≡ minus below n
minus_is below n b h = rw (b, lt-ltb 0 n h)

pub minus_zero : (below : Bool) (n : ℕ) → below ≡ true → n ≤ 0 → [] ≡ minus below n
minus_zero below n b h = rw (b, le-ltb 0 n h)

pub minus_above : (below : Bool) (n : ℕ) → below ≡ false → [] ≡ minus below n
minus_above below n b = rw b

pub nan_is : (least : ℕ) (nan below : Bool) → nan ≡ true → right_in least (78 ∷ 97 ∷ 78 ∷ []) ≡ right_in least (named_text nan below)
nan_is least nan below e = rw e

pub low_is : (least : ℕ) (nan below : Bool) → nan ≡ false → below ≡ true → right_in least (45 ∷ 105 ∷ 110 ∷ 102 ∷ []) ≡ right_in least (named_text nan below)
low_is least nan below e b = rw (e, b)

pub high_is : (least : ℕ) (nan below : Bool) → nan ≡ false → below ≡ false → right_in least (105 ∷ 110 ∷ 102 ∷ []) ≡ right_in least (named_text nan below)
high_is least nan below e b = rw (e, b)

pub point_none : (places n : ℕ) → places ≡ 0 → [] ≡ point (min places 3) n
point_none places n e = rw e

point_by : (q n : ℕ) → (q ≡ 0 → ⊥) → 46 ∷ digits 10 q n ≡ point q n
point_by zero n h = absurd (h refl)
point_by (suc q) n h = refl

pub point_some : (places n : ℕ) {k : ℕ} → (places ≡ 0 → ⊥) → k ≡ min places 3 → 46 ∷ digits 10 k n ≡ point (min places 3) n
point_some places n h e = rw e (point_by (min places 3) n (λ z. h (omega arith)))

pub fixed_is : (places n : ℕ) {p k : ℕ} → p ≡ 10 ^ places → k ≡ size_of (n / p) → digits 10 k (n / p) ++ point places n ≡ fixed places n
unfolding fixed
fixed_is places n e l = rw (l, e)

pub number_text_lem : (least : ℕ) (below : Bool) (places n : ℕ) {c k : ℕ} → c ≡ length (signed below places n) → k ≡ least - c → (replicate k 32 ++ minus below n) ++ fixed places n ≡ right_in least (signed below places n)
unfolding signed
number_text_lem least below places n l e = rw (append_assoc, e, l)

pub whole_text : (width n : ℕ) {k l : ℕ} → k ≡ size_of n → l ≡ width - k → replicate l 32 ++ digits 10 k n ≡ right_in width (decimal n)
whole_text width n e j = rw (j, e, length_digits)

pub float_text_lem : (pad : Bool) (width least : ℕ) (s t : List ℕ) → least ≡ cond pad width 0 → s ≡ t → right_in least s ≡ right_in (cond pad width 0) t
float_text_lem pad width least s t e j = rw (e, j)

pub tenths_whole : (n : ℕ) {k : ℕ} → n % 10 ≡ 0 → k ≡ size_of (n / 10) → digits 10 k (n / 10) ≡ tenths_text n
unfolding tenths_text
tenths_whole n h e = rw (eq-eqb (n % 10) 0 h, e)

pub tenths_some : (n : ℕ) → (n % 10 ≡ 0 → ⊥) → fixed 1 n ≡ tenths_text n
unfolding tenths_text
tenths_some n h = rw (ne_eqb (n % 10) 0 h)
