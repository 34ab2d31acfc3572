-- The sign of a rounded result, and a number cut to a whole one. Assumes nothing.
use mathlib.Core.Path.{◌≡◌, refl, sym, ap, ◌∙◌, subst}
use mathlib.Core.Bool.{Bool, true, false, not, ◌&&◌, cond, not-and_self}
use Prim.Native.Nat.{ℕ, zero, suc, ◌+◌, ◌-◌, ◌*◌, ◌/◌, ◌^◌, ◌≤◌, ◌<◌, min}
use native.Mathlib.Nat.{le_trans, le_of_eq, mul-one, one-mul, zero-mul, add_comm, add-mul, mul_comm, mul_assoc, mul_right_comm, mul-sub, le-div_iff_mul-le, le-mul_of_pos_right, mul-pos, zero-lt-suc}
use native.Mathlib.Omega.{arith}
use lib.Dec.{T, leb, ltb, eqb, ltb→lt, eqb→eq, lit<, lit≤}
use lib.IntN.{ℤ, pos}
use lib.Ieee.{Float, nan, inf, fin, binary32, unlike, up, down, size, odd, units, round, neg, sum, add, sub, div, below, of_bits, lt, le, eq, fits, to_unsigned, to_signed}
use lib.Ieee.Fits.{up_pos, down_pos, and_l, round_is}
use lib.Ieee.Bits.{is_true}
use lib.Ieee.Exact.{HasValue}
use lib.Ieee.Order.{le_of_values, round_mono}
use lib.Ieee.Scale.{round_same, finite}
use lib.Ieee.Positive.{positive, above, above_of_le, first_pos, positive_of_value, le→cross, values_of_le}
use borrow.Author.Tests.{ltb-true, ltb-false, lt-ltb, le-ltb, le-leb, leb-true, leb-false, ne_eqb}
use Rattle.arith.specs.Floats.{◌⊕◌, ◌⊖◌, ◌⊘◌, scaled}
use Rattle.arith.specs.Numbers.{0·0, 1·0}
use Rattle.arith.proofs.Order.{no, flag}
use Rattle.arith.proofs.ScaledLaws.{scaled_exact}

-- ---- above 0 where the fraction is, if that is 2 ^ -149 at least

above_is : (x : Float) → lt 0·0 x ≡ above x
unfolding lt of_bits
above_is nan = refl
above_is (inf s) = refl
above_is (fin true m e) = refl
above_is (fin false zero e) = le-ltb (0 * down e) (0 * up e * 1) (omega arith)
above_is (fin false (suc m) e) = let p : 0 < suc m * up e = mul-pos (zero-lt-suc m) (up_pos e) in lt-ltb (0 * down e) (suc m * up e * 1) (omega arith) ∙ sym (lt-ltb 0 (suc m) (zero-lt-suc m))

negative : (t : Bool) (q k : ℕ) → lt 0·0 (cond t (odd 25 true q k 149) (inf true)) ≡ false
unfolding lt of_bits odd
negative true zero k = refl
negative true (suc q) k = refl
negative false q k = refl

units_negative : (q k : ℕ) → lt 0·0 (units binary32 true q k) ≡ false
unfolding units
units_negative q k = negative (ltb (q * 2 ^ k) (2 ^ 277)) q k

round_negative : (a c : ℕ) → lt 0·0 (round binary32 true a c) ≡ false
round_negative a c = ap (lt 0·0) (round_is binary32 true a c) ∙ units_negative _ _

zero_is : (s : Bool) → round binary32 s 0 1 ≡ fin s 0 (pos 0)
unfolding round size units odd
zero_is s = refl

round_0 : (s : Bool) (c : ℕ) → 0 < c → round binary32 s 0 c ≡ fin s 0 (pos 0)
round_0 s c C = round_same binary32 s 0 c 0 1 C (lit< tt) (omega arith) ∙ zero_is s

least : T (positive (round binary32 false 1 (2 ^ 149)))
unfolding round size units odd
least = tt

-- a / c is n times 2 ^ -149
round_above : (a c n : ℕ) → 0 < c → a * 2 ^ 149 ≡ n * c → 0 < a → T (above (round binary32 false a c))
round_above a c n C e h =
    let k : 0 < n * c = subst (λ (x : ℕ). 0 < x) e (mul-pos h (lit< tt)) in
    let l : c ≤ a * 2 ^ 149 = le_trans (le-mul_of_pos_right c (first_pos n c k)) (le_of_eq (mul_comm c n ∙ sym e)) in
    above_of_le (round binary32 false 1 (2 ^ 149)) (round binary32 false a c) least (round_mono binary32 1 (2 ^ 149) a c (lit< tt) C (le_trans (le_of_eq (one-mul c)) l))

sign_of : (s : Bool) (a c n : ℕ) → 0 < c → a * 2 ^ 149 ≡ n * c → lt 0·0 (round binary32 s a c) ≡ (not s && ltb 0 a)
sign_of true a c n C e = round_negative a c
sign_of false zero c n C e = ap (lt 0·0) (round_0 false c C) ∙ unfold lt of_bits in refl
sign_of false (suc a) c n C e = above_is (round binary32 false (suc a) c) ∙ is_true _ (round_above (suc a) c n C e (zero-lt-suc a)) ∙ sym (lt-ltb 0 (suc a) (zero-lt-suc a))

-- ---- a difference of two f32

-- an f32 is a whole number of 2 ^ -149
whole : (s : Bool) (m : ℕ) (e : ℤ) → T (fits binary32 (fin s m e)) → (n : ℕ) × (m * up e * 2 ^ 149 ≡ n * down e)
whole s m e f = (scaled 149 (fin s m e), (scaled_exact s m e 149 (lit≤ tt) f).1)

sub_mul : (p q r : ℕ) → (p - q) * r ≡ p * r - q * r
sub_mul p q r = rw (mul_comm (p - q) r, mul_comm p r, mul_comm q r) (mul-sub r p q)

above_apart : (a b : ℕ) (t : Bool) → ltb b a ≡ t → ltb 0 (a - b) ≡ t
above_apart a b true e = let h = ltb-true b a e in lt-ltb 0 (a - b) (omega arith)
above_apart a b false e = let h = ltb-false b a e in le-ltb 0 (a - b) (omega arith)

-- ±(A - B) / C, for two numbers of 2 ^ -149
apart : (A B C x y : ℕ) → 0 < C → A * 2 ^ 149 ≡ x * C → B * 2 ^ 149 ≡ y * C → (s : Bool) → lt 0·0 (round binary32 s (A - B) C) ≡ (not s && ltb B A)
apart A B C x y c a b s = sign_of s (A - B) C (x - y) c (sub_mul A B (2 ^ 149) ∙ rw (a, b) (sym (sub_mul x y C))) ∙ ap (λ (t : Bool). not s && t) (above_apart A B (ltb B A) refl)

by_signs : (A B C x y : ℕ) → 0 < C → A * 2 ^ 149 ≡ x * C → B * 2 ^ 149 ≡ y * C → (s t : Bool) → lt 0·0 (sum binary32 s A (not t) B C) ≡ below t B s A
unfolding sum
by_signs A B C x y c a b false true = sign_of false (A + B) C (x + y) c (add-mul A B (2 ^ 149) ∙ rw (a, b) (sym (add-mul x y C))) ∙ ap (ltb 0) (add_comm A B)
by_signs A B C x y c a b true false = round_negative (A + B) C
by_signs A B C x y c a b false false = go (ltb A B) refl
  where
    go : (p : Bool) → ltb A B ≡ p → lt 0·0 (cond p (round binary32 true (B - A) C) (round binary32 false (A - B) C)) ≡ ltb B A
    go true e = let h = ltb-true A B e in round_negative (B - A) C ∙ sym (le-ltb B A (omega arith))
    go false e = apart A B C x y c a b false
by_signs A B C x y c a b true true = go (ltb A B) refl
  where
    go : (p : Bool) → ltb A B ≡ p → lt 0·0 (cond p (round binary32 false (B - A) C) (round binary32 (ltb B A) (A - B) C)) ≡ p
    go true e = apart B A C y x c b a false ∙ e
    go false e = apart A B C x y c a b (ltb B A) ∙ not-and_self (ltb B A)

-- a - b, rounded, is above 0 exactly where a is above b
pub difference_above : (a b : Float) → T (finite a) → T (finite b) → T (fits binary32 a) → T (fits binary32 b) → lt 0·0 (a ⊖ b) ≡ lt b a
unfolding lt sub add neg
difference_above nan b p q f g = absurd p
difference_above (inf s) b p q f g = absurd p
difference_above (fin s m e) nan p q f g = absurd q
difference_above (fin s m e) (inf t) p q f g = absurd q
difference_above (fin s m e) (fin t n d) p q f g =
    let v = whole s m e f in
    let w = whole t n d g in
    by_signs (m * up e * down d) (n * up d * down e) (down e * down d) v.0 w.0 (mul-pos (down_pos e) (down_pos d))
    (mul_right_comm (m * up e) (down d) (2 ^ 149) ∙ rw v.1 (mul_assoc v.0 (down e) (down d)))
    (mul_right_comm (n * up d) (down e) (2 ^ 149) ∙ rw w.1 (mul_assoc w.0 (down d) (down e)) ∙ ap (λ (z : ℕ). w.0 * z) (mul_comm (down d) (down e))) s t

-- ---- quotients and sums from 0 on

-- what lies between two finite numbers is one
pub finite_within : (lo x hi : Float) → T (finite lo) → T (finite hi) → le lo x ≡ true → le x hi ≡ true → T (finite x)
unfolding le lt eq
finite_within nan x hi p q h k = absurd p
finite_within (inf s) x hi p q h k = absurd p
finite_within (fin s m e) nan hi p q h k = no h
finite_within (fin s m e) (inf true) hi p q h k = no h
finite_within (fin s m e) (inf false) nan p q h k = absurd q
finite_within (fin s m e) (inf false) (inf t) p q h k = absurd q
finite_within (fin s m e) (inf false) (fin t n d) p q h k = no k
finite_within (fin s m e) (fin t n d) hi p q h k = tt

-- of 0 ≤ x only a zero has a minus sign
minus_0 : (s : Bool) (m : ℕ) (e : ℤ) → le 0·0 (fin s m e) ≡ true → s ≡ true → m * up e ≡ 0
unfolding le lt eq of_bits
minus_0 false m e h z = no z
minus_0 true m e h z = let q : 0 * down e ≡ m * up e * 1 = eqb→eq (0 * down e) (m * up e * 1) (and_l (eqb (0 * down e) (m * up e * 1)) (eqb (0 * down e) 0) (subst T (sym h) tt)) in omega arith

round_from_0 : (s : Bool) (a c : ℕ) → 0 < c → (s ≡ true → a ≡ 0) → le 0·0 (round binary32 s a c) ≡ true
unfolding of_bits
round_from_0 false a c C z = is_true _ (subst (λ (x : Float). T (le x (round binary32 false a c))) (zero_is false) (round_mono binary32 0 1 a c (lit< tt) C (omega arith)))
round_from_0 true a c C z = rw (z refl, round_0 true c C) (unfold le lt eq in refl)

pub quotient_from_0 : (x y : Float) → T (finite x) → le 0·0 x ≡ true → T (above y) → le 0·0 (x ⊘ y) ≡ true
unfolding div
quotient_from_0 nan y p h k = absurd p
quotient_from_0 (inf s) y p h k = absurd p
quotient_from_0 (fin s m e) nan p h k = absurd k
quotient_from_0 (fin s m e) (inf true) p h k = absurd k
quotient_from_0 (fin true m e) (inf false) p h k = unfold le lt eq of_bits in refl
quotient_from_0 (fin false m e) (inf false) p h k = unfold le lt eq of_bits in refl
quotient_from_0 (fin s m e) (fin true n d) p h k = absurd k
quotient_from_0 (fin s m e) (fin false n d) p h k =
    let N = ltb→lt 0 n k in
    rw (ne_eqb n 0 (λ q. omega arith)) (round_from_0 _ (m * up e * down d) (n * up d * down e) (mul-pos (mul-pos N (up_pos d)) (down_pos e)) (λ q. rw (minus_0 s m e h (like s q)) (zero-mul (down d))))
  where
    like : (s : Bool) → unlike s false ≡ true → s ≡ true
    like true q = refl
    like false q = q

-- ---- sums with 1, and what is under 1

one_is : round binary32 false 1 1 ≡ 1·0
unfolding round size units odd of_bits
one_is = refl

round_from_1 : (a c : ℕ) → 0 < c → c ≤ a → le 1·0 (round binary32 false a c) ≡ true
round_from_1 a c C h = is_true _ (subst (λ (x : Float). T (le x (round binary32 false a c))) one_is (round_mono binary32 1 1 a c (lit< tt) C (omega arith)))

sum_from_1 : (s : Bool) (a b c : ℕ) → 0 < c → c ≤ b → (s ≡ true → a ≡ 0) → (le 1·0 (sum binary32 s a false b c) ≡ true) × (le 1·0 (sum binary32 false b s a c) ≡ true)
unfolding sum
sum_from_1 false a b c C h z = (round_from_1 (a + b) c C (omega arith), round_from_1 (b + a) c C (omega arith))
sum_from_1 true a b c C h z =
    let q : a ≡ 0 = z refl in
    (rw (lt-ltb a b (omega arith)) (round_from_1 (b - a) c C (omega arith)), rw (le-ltb b a (omega arith)) (round_from_1 (b - a) c C (omega arith)))

-- x + 1 and 1 + x
pub sum_1 : (x : Float) → le 0·0 x ≡ true → (le 1·0 (x ⊕ 1·0) ≡ true) × (le 1·0 (1·0 ⊕ x) ≡ true)
unfolding add of_bits
sum_1 nan h = unfold le lt eq in no h
sum_1 (inf true) h = unfold le lt eq in no h
sum_1 (inf false) h = unfold le lt eq in (refl, refl)
sum_1 (fin s m e) h =
    let D = down_pos e in
    let z : s ≡ true → m * up e * 1 ≡ 0 = λ q. mul-one (m * up e) ∙ minus_0 s m e h q in
    ((sum_from_1 s (m * up e * 1) (1 * down e) (down e * 1) (omega arith) (omega arith) z).0, (sum_from_1 s (m * up e * 1) (1 * down e) (1 * down e) (omega arith) (omega arith) z).1)

one_positive : T (positive 1·0)
unfolding of_bits
one_positive = tt

pub from_1_above : (x : Float) → le 1·0 x ≡ true → T (above x)
from_1_above x h = above_of_le 1·0 x one_positive (subst T (sym h) tt)

-- 1 / x is at most 1
pub inverse_to_1 : (x : Float) → le 1·0 x ≡ true → le (1·0 ⊘ x) 1·0 ≡ true
unfolding div of_bits
inverse_to_1 x h = go x (from_1_above x h) h
  where
    go : (x : Float) → T (above x) → le 1·0 x ≡ true → le (1·0 ⊘ x) 1·0 ≡ true
    go nan k h = absurd k
    go (inf true) k h = absurd k
    go (inf false) k h = unfold le lt eq in refl
    go (fin true n d) k h = absurd k
    go (fin false n d) k h =
        let N = ltb→lt 0 n k in
        let c : 1 * down d ≤ n * up d * 1 = le→cross 1·0 (fin false n d) one_positive k (subst T (sym h) tt) in
        rw (ne_eqb n 0 (λ q. omega arith)) (is_true _ (subst (λ (z : Float). T (le (round binary32 false (1 * down d) (n * up d * 1)) z)) one_is (round_mono binary32 (1 * down d) (n * up d * 1) 1 1 (mul-pos (mul-pos N (up_pos d)) (lit< tt)) (lit< tt) (omega arith))))

-- ---- a number above 0 cut to a whole one

pub cut : (n : ℕ) (y x : Float) → HasValue y false (suc n) 1 → suc n < 2 ^ 31 → T (above x) → le y x ≡ leb (suc n) (to_unsigned 31 x)
unfolding to_unsigned
cut n y nan v l k = absurd k
cut n y (inf true) v l k = absurd k
cut n y (inf false) v l k = under y v ∙ sym (le-leb (suc n) (2 ^ 31 - 1) (omega arith))
  where
    under : (y : Float) → HasValue y false (suc n) 1 → le y (inf false) ≡ true
    under nan v = absurd v
    under (inf s) v = absurd v
    under (fin s m e) v = unfold le lt eq in refl
cut n y (fin true m e) v l k = absurd k
cut n y (fin false m e) v l k = go (leb (suc n) (min (m * up e / down e) (2 ^ 31 - 1))) refl
  where
    go : (t : Bool) → leb (suc n) (min (m * up e / down e) (2 ^ 31 - 1)) ≡ t → le y (fin false m e) ≡ t
    go true q =
        let c : suc n ≤ m * up e / down e = omega (arith, leb-true (suc n) (min (m * up e / down e) (2 ^ 31 - 1)) q) in
        let b : suc n * down e ≤ m * up e = (le-div_iff_mul-le (down_pos e)).0 c in
        is_true _ (le_of_values y (fin false m e) (suc n) 1 (m * up e) (down e) (lit< tt) (down_pos e) v (refl, refl) (omega arith))
    go false q =
        flag _ (λ h.
        let b : suc n * down e ≤ m * up e * 1 = values_of_le y (fin false m e) (suc n) 1 (m * up e) (down e) (positive_of_value y (suc n) 1 v (zero-lt-suc n)) k v (refl, refl) (subst T (sym h) tt) in
        let c : suc n ≤ m * up e / down e = (le-div_iff_mul-le (down_pos e)).1 (omega arith) in
        omega (arith, leb-false (suc n) (min (m * up e / down e) (2 ^ 31 - 1)) q))

-- from suc n on, and from there to below the next
pub cut_from : (n : ℕ) (y x : Float) → HasValue y false (suc n) 1 → suc n < 2 ^ 31 → le y x ≡ true → suc n ≤ to_unsigned 31 x
cut_from n y x v l h = leb-true (suc n) (to_unsigned 31 x) (sym (cut n y x v l (above_of_le y x (positive_of_value y (suc n) 1 v (zero-lt-suc n)) (subst T (sym h) tt))) ∙ h)

pub cut_is : (n : ℕ) (y z x : Float) → HasValue y false (suc n) 1 → HasValue z false (suc (suc n)) 1 → suc (suc n) < 2 ^ 31 → le y x ≡ true → le z x ≡ false → to_unsigned 31 x ≡ suc n
cut_is n y z x v w l h k =
    let a : suc n ≤ to_unsigned 31 x = cut_from n y x v (omega arith) h in
    let b : to_unsigned 31 x < suc (suc n) = leb-false (suc (suc n)) (to_unsigned 31 x) (sym (cut (suc n) z x w l (above_of_le y x (positive_of_value y (suc n) 1 v (zero-lt-suc n)) (subst T (sym h) tt))) ∙ k) in
    omega arith

-- to a signed number or an unsigned one
pub cut_signed : (x : Float) → T (above x) → to_signed 31 x ≡ pos (to_unsigned 31 x)
unfolding to_signed to_unsigned
cut_signed nan k = absurd k
cut_signed (inf true) k = absurd k
cut_signed (inf false) k = refl
cut_signed (fin true m e) k = absurd k
cut_signed (fin false m e) k = refl
