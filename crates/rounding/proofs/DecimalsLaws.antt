-- Laws of the texts of numbers: their lengths, and the cases of the definitions. Assumes nothing.
use mathlib.Core.Path.{◌≡◌, refl, sym, ap, ◌∙◌}
use mathlib.Core.Bool.{Bool, true, false, cond}
use mathlib.Core.List.{List, ◌∷◌, ◌++◌}
use Prim.Native.Nat.{ℕ, zero, suc, ◌+◌, ◌/◌, ◌^◌, ◌*◌, ◌<◌, ◌≤◌, min, max}
use native.Mathlib.Omega.{arith}
use native.Mathlib.Numerals.{add-one}
use native.Mathlib.Nat.{one-le-pow}
use lib.Dec.{ltb}
use lib.ListN.{length, length-append}
use borrow.Author.Tests.{ltb-false, lt-ltb, le-ltb, le-leb, lt-leb, eq-eqb, ne_eqb}
use Rattle.rounding.specs.Decimals.{digits, size_in, size_of, point, fixed, minus, signed, units, number_text, bound_text, shown_in, fraction_of, exponent_of, below_of, significand, field, named_text, float_text}

pub length_digits : (base k n : ℕ) → length (digits base k n) ≡ k
unfolding digits
length_digits base zero n = refl
length_digits base (suc k) n = rw (length-append, length_digits base k (n / base), add-one)

-- enough turns are enough
enough_by : (f g n : ℕ) (t : Bool) → ltb n 10 ≡ t → n < suc f → n < suc g → (n / 10 < f → n / 10 < g → size_in f (n / 10) ≡ size_in g (n / 10)) → cond t 1 (size_in f (n / 10) + 1) ≡ cond t 1 (size_in g (n / 10) + 1)
enough_by f g n true e h j more = refl
enough_by f g n false e h j more = let ten : 10 ≤ n = ltb-false n 10 e in ap (λ (k : ℕ). k + 1) (more (omega arith) (omega arith))

enough : (f g n : ℕ) → n < f → n < g → size_in f n ≡ size_in g n
unfolding size_in
enough zero g n h j = absurd (omega arith)
enough (suc f) zero n h j = absurd (omega arith)
enough (suc f) (suc g) n h j = enough_by f g n (ltb n 10) refl h j (λ k l. enough f g (n / 10) k l)

pub size_one : (n : ℕ) → n < 10 → size_of n ≡ 1
unfolding size_of size_in
size_one n h = rw (lt-ltb n 10 h)

pub size_more : (n : ℕ) → 10 ≤ n → size_of n ≡ size_of (n / 10) + 1
unfolding size_of size_in
size_more n h = rw (le-ltb n 10 h) (ap (λ (k : ℕ). k + 1) (enough n (suc (n / 10)) (n / 10) (omega arith) (omega arith)))

-- so many as the power of ten that it reaches, and one; 0 has as many as 1
pub size_is : (k n : ℕ) → 10 ^ k ≤ max n 1 → max n 1 < 10 * 10 ^ k → size_of n ≡ k + 1
size_is zero n h j = size_one n (omega arith)
size_is (suc k) n h j =
    let some : 1 ≤ 10 ^ k = one-le-pow k 10 (omega arith) in
    let ten : 10 ≤ n = omega arith in
    let tenth : max (n / 10) 1 ≡ n / 10 = omega arith in
    size_more n ten ∙ ap (λ (m : ℕ). m + 1) (size_is k (n / 10) (omega arith) (omega arith)) ∙ omega arith

-- a number has no more digits than tens, and two
size_in_small : (f n : ℕ) → size_in f n ≤ n + 1
unfolding size_in
size_in_small zero n = omega arith
size_in_small (suc f) n = by_test (ltb n 10) refl (size_in_small f (n / 10))
  where
    by_test : (t : Bool) → ltb n 10 ≡ t → size_in f (n / 10) ≤ n / 10 + 1 → cond t 1 (size_in f (n / 10) + 1) ≤ n + 1
    by_test true e more = omega arith
    by_test false e more = let ten : 10 ≤ n = ltb-false n 10 e in omega arith

pub size_small : (n : ℕ) → size_of n ≤ n / 10 + 2
unfolding size_of size_in
size_small n = by_test (ltb n 10) (size_in_small n (n / 10))
  where
    by_test : (t : Bool) → size_in n (n / 10) ≤ n / 10 + 1 → cond t 1 (size_in n (n / 10) + 1) ≤ n / 10 + 2
    by_test true more = omega arith
    by_test false more = omega arith

-- how long a text is: that of n with a point does not hang on the digits
pub length_point : (places n : ℕ) → length (point places n) ≡ length (point places 0)
length_point zero n = refl
length_point (suc p) n = rw (length_digits, length_digits)

pub length_fixed : (places n : ℕ) → length (fixed places n) ≡ size_of (n / 10 ^ places) + length (point places 0)
unfolding fixed
length_fixed places n = rw (length-append, length_digits, length_point places n)

module _ (below : Bool) (places n : ℕ) where
  pub signed_above : below ≡ false → signed below places n ≡ fixed places n
  unfolding signed
  signed_above e = rw e

  pub signed_zero : n ≡ 0 → signed below places n ≡ fixed places n
  unfolding signed
  signed_zero e = by_sign below
    where
      by_sign : (b : Bool) → minus b n ++ fixed places n ≡ fixed places n
      by_sign true = rw (le-ltb 0 n (omega arith))
      by_sign false = refl

  pub signed_below : below ≡ true → 0 < n → signed below places n ≡ 45 ∷ fixed places n
  unfolding signed
  signed_below e h = rw (e, lt-ltb 0 n h)

-- the cases of a number that is shown
module _ (below : Bool) (m e width : ℕ) where
  pub shown_fits : (p : ℕ) → length (number_text below m e p) ≤ width → shown_in below m e width p ≡ number_text below m e p
  unfolding shown_in
  shown_fits zero h = rw (le-leb _ _ h)
  shown_fits (suc p) h = rw (le-leb _ _ h)

  pub shown_fewer : (p : ℕ) → width < length (number_text below m e (suc p)) → shown_in below m e width (suc p) ≡ shown_in below m e width p
  unfolding shown_in
  shown_fewer p h = rw (lt-leb _ _ h)

  pub shown_bound : width < length (number_text below m e 0) → shown_in below m e width 0 ≡ bound_text below width
  unfolding shown_in
  shown_bound h = rw (lt-leb _ _ h)

-- what is shown where more places than those below `left` do not fit
abbrev pub shown_before : Bool → (m e width left : ℕ) → List ℕ
shown_before below m e width zero = bound_text below width
shown_before below m e width (suc p) = shown_in below m e width p

-- for `columns`: without a minus and with one
module _ (below : Bool) (places n : ℕ) {p s k : ℕ} (power : p ≡ 10 ^ places) (size : s ≡ size_of (n / p)) (tail : k ≡ length (point places 0)) where
  pub columns_bare : signed below places n ≡ fixed places n → s + k ≡ length (signed below places n)
  columns_bare e = rw (e, length_fixed places n, ← power, size, tail)

  pub columns_minus : signed below places n ≡ 45 ∷ fixed places n → s + k + 1 ≡ length (signed below places n)
  columns_minus e = let bare = length_fixed places n in rw e (rw (size, tail, power) (omega arith))

-- for `fitting`: the number that it tries, and its ends
module _ (below : Bool) (m e width : ℕ) (left : ℕ) {p n k : ℕ} (h : left ≤ 3) (power : p ≡ 10 ^ min left 3) (number : n ≡ units m e p) (long : k ≡ length (signed below (min left 3) n)) where
  number_is : signed below (min left 3) n ≡ number_text below m e left
  number_is = let all : min left 3 ≡ left = omega arith in rw (number, power, all)

  pub tried_fits : k ≤ width → signed below (min left 3) n ≡ shown_in below m e width left
  tried_fits f = number_is ∙ sym (shown_fits below m e width left (rw (← number_is, ← long) f))

  pub tried_fewer : width < k → shown_in below m e width left ≡ shown_before below m e width left
  tried_fewer f = go left (rw (← number_is, ← long) f)
    where
      go : (p : ℕ) → width < length (number_text below m e p) → shown_in below m e width p ≡ shown_before below m e width p
      go zero l = shown_bound below m e width l
      go (suc p) l = shown_fewer below m e width p l

-- for `rounded`: its four ends
module _ (w places width : ℕ) where
  float_named : 255 ≤ exponent_of w → named_text (ltb 0 (fraction_of w)) (below_of w) ≡ float_text w places width
  unfolding float_text
  float_named h = rw (eq-eqb (exponent_of w) 255 (omega arith))

  pub float_nan : 255 ≤ exponent_of w → 0 < fraction_of w → named_text true false ≡ float_text w places width
  float_nan h f = ap (λ (nan : Bool). named_text nan (below_of w)) (sym (lt-ltb 0 (fraction_of w) f)) ∙ float_named h

  pub float_infinity : 255 ≤ exponent_of w → fraction_of w ≤ 0 → named_text false (below_of w) ≡ float_text w places width
  float_infinity h f = ap (λ (nan : Bool). named_text nan (below_of w)) (sym (le-ltb 0 (fraction_of w) f)) ∙ float_named h

  pub float_far : exponent_of w < 255 → 175 < exponent_of w → bound_text (below_of w) width ≡ float_text w places width
  unfolding float_text
  float_far n h = rw (ne_eqb (exponent_of w) 255 (omega arith), lt-ltb 175 (exponent_of w) h)

  pub float_number : {t : List ℕ} {m e most : ℕ} → exponent_of w ≤ 175 → m ≡ significand (fraction_of w) (exponent_of w) → e ≡ field (exponent_of w) → most ≡ min places 3 → t ≡ shown_in (below_of w) m e width most → t ≡ float_text w places width
  unfolding float_text
  float_number h p q l e = e ∙ rw (ne_eqb (exponent_of w) 255 (omega arith), le-ltb 175 (exponent_of w) h, p, q, l)
