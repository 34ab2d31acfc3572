-- What the last step of the recipe returns: the difference of the two parts, cut to 30 binary places and rounded to an f32, is within 2 ^ -22 of the series, and at most 2 in magnitude. Assumes nothing.
use Rattle.std.proofs.Common.{◌≡◌, ℕ, zero, suc, ◌+◌, ◌-◌, ◌*◌, ◌/◌, ◌%◌, ◌^◌, ◌<◌, ◌≤◌, Bool, true, false, cond, not, ltb, pos, negsuc, sym, refl, ap, ◌∙◌, subst, true≢false, le_trans, le_of_eq, le_refl, lt_of_lt_of_le, lt_of_le_of_lt, le_of_lt, add-le-add, mul-le-mul_right, zero-lt-suc, mul_assoc, mul_comm, add-mul, le_antisymm, mul-le-mul_left, mul-lt-mul_of_pos_right, mul-pos, one-mul, lt_of_not-le, zero-mul, mul-one, mul-add, mul_right_comm, not-le_of_lt, le_of_mul-le-mul_right, div-one, mul_left_comm, arith, lit<, lit≤, pow_pos, pow_mono, pow-add, ltb-false, ltb-true}
use Prim.Native.Nat.{compare}
use native.Mathlib.Nat.{le_of_mul-le-mul_left, div-div-eq-div-mul}
use native.Mathlib.Decide.{dec_le}
use lib.Ieee.{Float, nan, inf, fin, binary32, up, down, mul, neg, of_int, round, size, units, odd}
use lib.Ieee.Digits.{size-lt, size-le}
use lib.Ieee.Exact.{HasValue, round_exact}
use lib.Ieee.Fits.{down_pos, nearest-le, kept-lt}
use lib.Ieee.Order.{kept, drop}
use lib.Ieee.Scale.{grid, round_same}
use Rattle.angles.proofs.Rounded.{rounded, rounded_value}
use Rattle.angles.specs.Series.{Near}
use Rattle.angles.specs.SinCos.{from_units, difference}
use Rattle.angles.specs.SinCosAsked.{Within22, NearTo}
use Rattle.angles.proofs.SinCosBounded.{Differ}

-- ---- 2 ^ -30 times a number, which is exact where the number is a whole one that was rounded
times : (x : Float) (a c : ℕ) → 0 < c → HasValue x false a c → mul binary32 x (fin false 1 (negsuc 29)) ≡ round binary32 false a (c * 2 ^ 30)
unfolding mul
times nan a c C v = absurd v
times (inf s) a c C v = absurd v
times (fin true m e) a c C v = absurd (true≢false v.0)
times (fin false m e) a c C v =
    round_same binary32 false (m * up e * 1) (down e * 2 ^ 30) a (c * 2 ^ 30) (mul-pos (down_pos e) (lit< tt)) (mul-pos C (lit< tt))
    (ap (λ (z : ℕ). z * (c * 2 ^ 30)) (mul-one (m * up e)) ∙ sym (mul_assoc (m * up e) c (2 ^ 30)) ∙ ap (λ (z : ℕ). z * 2 ^ 30) v.1 ∙ mul_assoc a (down e) (2 ^ 30))

-- at most 24 digits are kept, and of a whole number from 1 on 30 at least are dropped below its units
kept_le : (n : ℕ) → kept 24 n 1 ≤ 2 ^ 24
kept_le n =
    let k = drop 24 n 1 in
    let u = 1 * 2 ^ k in
    le_trans (nearest-le (n / u) (compare (n % u * 2) u)) (subst (λ (z : ℕ). suc z ≤ 2 ^ 24) (div-div-eq-div-mul n 1 (2 ^ k)) (kept-lt 24 (n / 1)))

drop_ge : (k : ℕ) → 0 < k → 30 ≤ drop 24 (k * 2 ^ 149) 1
drop_ge k h = left (size (k * 2 ^ 149 / 1)) (lt_of_not-le (λ (g : size (k * 2 ^ 149 / 1) ≤ 53). not-le_of_lt (lt_of_lt_of_le (size-lt (k * 2 ^ 149 / 1)) (pow_mono g)) (much k h)))
  where
    left : (z : ℕ) → 53 < z → 30 ≤ z - 24
    left z h = omega arith

    much : (k : ℕ) → 0 < k → 2 ^ 53 ≤ k * 2 ^ 149 / 1
    much k h = le_trans (lit≤ {n = 1 * 2 ^ 149} tt) (le_trans (mul-le-mul_right (2 ^ 149) h) (le_of_eq (sym (div-one (k * 2 ^ 149)))))

drop_le : (k : ℕ) → k < 2 ^ 32 → drop 24 (k * 2 ^ 149) 1 ≤ 157
drop_le k h = few (size (k * 2 ^ 149 / 1)) (size-le (k * 2 ^ 149 / 1) 181 (lt_of_le_of_lt (le_of_eq (div-one (k * 2 ^ 149))) (lt_of_lt_of_le (mul-lt-mul_of_pos_right h (pow_pos 149)) (lit≤ tt))))
  where
    few : (s : ℕ) → s ≤ 181 → s - 24 ≤ 157
    few s h = omega arith

exact : (q j : ℕ) → q ≤ 2 ^ 24 → 30 ≤ j → j ≤ 157 → HasValue (round binary32 false (q * 2 ^ j) (2 ^ 179)) false (q * 2 ^ j) (2 ^ 179)
exact q j Q J L = go (dec_le (2 ^ 24) q)
  where
    room : (i : ℕ) → i ≤ 200 → 2 ^ 24 * 2 ^ i < 2 ^ 277
    room i h = lt_of_le_of_lt (mul-le-mul_left (2 ^ 24) (pow_mono h)) (lit< tt)

    down_30 : 2 ^ j ≡ 2 ^ (j - 30) * 2 ^ 30
    down_30 = ap (λ (z : ℕ). 2 ^ z) (sym (back j J)) ∙ pow-add 2 (j - 30) 30
      where
        back : (j : ℕ) → 30 ≤ j → j - 30 + 30 ≡ j
        back j h = omega arith

    moved : (q i j p s : ℕ) → j ≡ i * s → q * j * p ≡ q * i * (s * p)
    moved q i j p s e = ap (λ (z : ℕ). q * z * p) e ∙ simp mul_assoc

    same : q * 2 ^ j * 2 ^ 149 ≡ q * 2 ^ (j - 30) * 2 ^ 179
    same = moved q (2 ^ (j - 30)) (2 ^ j) (2 ^ 149) (2 ^ 30) down_30

    less : (j : ℕ) → j ≤ 157 → j - 30 ≤ 200
    less j h = omega arith

    less' : (j : ℕ) → j ≤ 157 → 24 + (j - 30) ≤ 200
    less' j h = omega arith

    go : Dec (2 ^ 24 ≤ q) → HasValue (round binary32 false (q * 2 ^ j) (2 ^ 179)) false (q * 2 ^ j) (2 ^ 179)
    go (no f) = round_exact binary32 false (q * 2 ^ j) (2 ^ 179) q (j - 30) (lit< tt) (lt_of_not-le f) (lt_of_le_of_lt (mul-le-mul_right (2 ^ (j - 30)) Q) (room (j - 30) (less j L))) same
    go (yes g) =
        let e : q ≡ 2 ^ 24 = le_antisymm Q g in
        let s : q * 2 ^ (j - 30) ≡ 1 * 2 ^ (24 + (j - 30)) = ap (λ (z : ℕ). z * 2 ^ (j - 30)) e ∙ sym (pow-add 2 24 (j - 30)) ∙ sym (one-mul (2 ^ (24 + (j - 30)))) in
        round_exact binary32 false (q * 2 ^ j) (2 ^ 179) 1 (24 + (j - 30)) (lit< tt) (lit< tt) (lt_of_le_of_lt (mul-le-mul_right (2 ^ (24 + (j - 30))) (lit≤ {n = 2 ^ 24} tt)) (room (24 + (j - 30)) (less' j L)))
        (same ∙ ap (λ (z : ℕ). z * 2 ^ 179) s)

-- ---- what `from_units` returns is v / 2 ^ 179, for v the rounded number in units of 2 ^ -149
at_zero : HasValue (mul binary32 (of_int binary32 (pos 0)) (fin false 1 (negsuc 29))) false (grid binary32 0 1) (2 ^ 179)
unfolding mul of_int round size units odd
at_zero = (refl, refl)

magnitude : (k : ℕ) → k < 2 ^ 32 → HasValue (mul binary32 (of_int binary32 (pos k)) (fin false 1 (negsuc 29))) false (grid binary32 k 1) (2 ^ 179)
magnitude zero h = at_zero
magnitude (suc k) h =
    let n = suc k * 2 ^ 149 in
    subst (λ (z : Float). HasValue z false (grid binary32 (suc k) 1) (2 ^ 179))
    (sym (times (of_int binary32 (pos (suc k))) (grid binary32 (suc k) 1) (2 ^ 149) (lit< tt) (rounded_value (suc k) h)))
    (exact (kept 24 n 1) (drop 24 n 1) (kept_le n) (drop_ge (suc k) (zero-lt-suc k)) (drop_le (suc k) h))

short : (p m : ℕ) → p < m + 7 * 2 ^ 55 → p - m < 7 * 2 ^ 55
short p m h = omega arith

wider : (d : ℕ) → d < 7 * 2 ^ 55 → d < 2 ^ 59
wider d h = lt_of_lt_of_le h (lit≤ tt)

cut_lt : (d : ℕ) → d < 2 ^ 59 → d / 2 ^ 27 < 2 ^ 32
cut_lt d h = omega arith

negated : (x : Float) (a c : ℕ) → HasValue x false a c → HasValue (neg x) true a c
unfolding neg
negated nan a c h = h
negated (inf s) a c h = h
negated (fin s m e) a c h = (ap not h.0, h.1)

pub units_value : (s : Bool) (d : ℕ) → d < 2 ^ 59 → HasValue (from_units s d) s (grid binary32 (d / 2 ^ 27) 1) (2 ^ 179)
unfolding from_units
units_value false d h = magnitude (d / 2 ^ 27) (cut_lt d h)
units_value true d h = negated (mul binary32 (of_int binary32 (pos (d / 2 ^ 27))) (fin false 1 (negsuc 29))) (grid binary32 (d / 2 ^ 27) 1) (2 ^ 179) (magnitude (d / 2 ^ 27) (cut_lt d h))

-- ---- the loss, on plain numbers: g is the greater part and l the lesser, of the evaluation, with their exact sums; q is 2 ^ 122
close_arith : (g l up down den v q : ℕ) → l ≤ g
    → Near (2 ^ 57) up den g 64 → Near (2 ^ 57) down den l 64
    → v ≤ ((g - l) / 2 ^ 27 * 2 ^ 27 + 2 ^ 34) * q → (g - l) / 2 ^ 27 * 2 ^ 27 * q ≤ v + 2 ^ 34 * q
    → (v * den + 2 ^ 57 * down * q ≤ 2 ^ 57 * up * q + 2 ^ 35 * den * q) × (2 ^ 57 * up * q ≤ v * den + 2 ^ 57 * down * q + 2 ^ 35 * den * q)
close_arith g l up down den v q L G D V1 V0 =
    let M = (g - l) / 2 ^ 27 * 2 ^ 27 in
    let w = den * q in
    let a1 : v * den ≤ (M + 2 ^ 34) * w = le_trans (mul-le-mul_right den V1) (le_of_eq (shuffle (M + 2 ^ 34) q den)) in
    let a2 : 2 ^ 57 * down * q ≤ (l + 64) * w = le_trans (mul-le-mul_right q D.1) (le_of_eq (mul_assoc (l + 64) den q)) in
    let a3 : g * w ≤ 2 ^ 57 * up * q = le_trans (le_of_eq (sym (mul_assoc g den q))) (mul-le-mul_right q G.0) in
    let b1 : M * w ≤ v * den + 2 ^ 34 * w = le_trans (le_of_eq (sym (shuffle M q den))) (le_trans (mul-le-mul_right den V0) (le_of_eq (add-mul v (2 ^ 34 * q) den ∙ ap (λ (x : ℕ). v * den + x) (shuffle (2 ^ 34) q den)))) in
    let b2 : l * w ≤ 2 ^ 57 * down * q = le_trans (le_of_eq (sym (mul_assoc l den q))) (mul-le-mul_right q D.0) in
    let b3 : 2 ^ 57 * up * q ≤ (g + 64) * w = le_trans (mul-le-mul_right q G.1) (le_of_eq (mul_assoc (g + 64) den q)) in (
      first M l g w (v * den) (2 ^ 57 * down * q) (2 ^ 57 * up * q) (2 ^ 35 * den * q) a1 a2 a3 (mul-le-mul_right w (low_part g l L)) (mul_assoc (2 ^ 35) den q),
      second M l g w (v * den) (2 ^ 57 * down * q) (2 ^ 57 * up * q) (2 ^ 35 * den * q) b1 b2 b3 (mul-le-mul_right w (high_part g l L)) (mul_assoc (2 ^ 35) den q),
    )
  where
    low_part : (g l : ℕ) → l ≤ g → (g - l) / 2 ^ 27 * 2 ^ 27 + l ≤ g
    low_part g l h = omega arith

    high_part : (g l : ℕ) → l ≤ g → g ≤ (g - l) / 2 ^ 27 * 2 ^ 27 + l + 2 ^ 27
    high_part g l h = omega arith

    shuffle : (x q d : ℕ) → x * q * d ≡ x * (d * q)
    shuffle x q d = simp (mul_assoc, mul_comm)

    first : (M l g w A Dn Up E : ℕ) → A ≤ (M + 2 ^ 34) * w → Dn ≤ (l + 64) * w → g * w ≤ Up → (M + l) * w ≤ g * w → E ≡ 2 ^ 35 * w → A + Dn ≤ Up + E
    first M l g w A Dn Up E h1 h2 h3 h4 e =
        let x1 : (M + 2 ^ 34) * w ≡ M * w + 2 ^ 34 * w = add-mul M (2 ^ 34) w in
        let x2 : (l + 64) * w ≡ l * w + 64 * w = add-mul l 64 w in
        let x3 : (M + l) * w ≡ M * w + l * w = add-mul M l w in
        omega (arith, x1, x2, x3, h1, h2, h3, h4, e)

    second : (M l g w A Dn Up E : ℕ) → M * w ≤ A + 2 ^ 34 * w → l * w ≤ Dn → Up ≤ (g + 64) * w → g * w ≤ (M + l + 2 ^ 27) * w → E ≡ 2 ^ 35 * w → Up ≤ A + Dn + E
    second M l g w A Dn Up E h1 h2 h3 h4 e =
        let x1 : (g + 64) * w ≡ g * w + 64 * w = add-mul g 64 w in
        let x2 : (M + l + 2 ^ 27) * w ≡ (M + l) * w + 2 ^ 27 * w = add-mul (M + l) (2 ^ 27) w in
        let x3 : (M + l) * w ≡ M * w + l * w = add-mul M l w in
        omega (arith, x1, x2, x3, h1, h2, h3, h4, e)

halves_above : (v m : ℕ) → 2 * v ≤ 2 * (m * 2 ^ 149) + 2 ^ 157 → v ≤ (m * 2 ^ 27 + 2 ^ 34) * 2 ^ 122
halves_above v m h = le_of_mul-le-mul_left {k = 2} (le_trans h (le_of_eq (regroup m (2 ^ 27) (2 ^ 122)))) (lit< tt)
  where
    regroup : (m a q : ℕ) → 2 * (m * (a * q)) + 2 * (2 ^ 34 * q) ≡ 2 * ((m * a + 2 ^ 34) * q)
    regroup m a q = simp (mul-add, add-mul, mul_assoc)

halves_below : (v m : ℕ) → 2 * (m * 2 ^ 149) ≤ 2 * v + 2 ^ 157 → m * 2 ^ 27 * 2 ^ 122 ≤ v + 2 ^ 34 * 2 ^ 122
halves_below v m h = le_of_mul-le-mul_left {k = 2} (le_trans (le_of_eq (ap (λ (w : ℕ). 2 * w) (mul_assoc m (2 ^ 27) (2 ^ 122)))) (le_trans h (le_of_eq (sym (mul-add 2 v (2 ^ 34 * 2 ^ 122)))))) (lit< tt)

-- in the words of the requirement: 2 ^ 179 is 2 ^ 57 * q
close : (g l u d k : ℕ) → Differ g l → l ≤ g → Near (2 ^ 57) u k g 64 → Near (2 ^ 57) d k l 64 → Within22 (grid binary32 ((g - l) / 2 ^ 27) 1) 0 (2 ^ 179) u d k
close g l u d k D L G N =
    let m = (g - l) / 2 ^ 27 in
    let v = grid binary32 m 1 in
    let q = 2 ^ 122 in
    let r = rounded m (cut_lt (g - l) (wider (g - l) (short g l D.0))) in
    let c = close_arith g l u d k v q L G N (halves_above v m r.0) (halves_below v m r.1) in
    let ck = shared (2 ^ 57) k q in (
      le_trans (at_22 (v * k + d * 2 ^ 179) (0 * k + u * 2 ^ 179) (k * q) (first (v * k) (2 ^ 57 * d * q) (d * 2 ^ 179) (0 * k) (2 ^ 57 * u * q) (u * 2 ^ 179) (2 ^ 35 * k * q) (2 ^ 35 * (k * q)) c.0 (moved (2 ^ 57) d q) (moved (2 ^ 57) u q) (mul_assoc (2 ^ 35) k q))) (add-le-add (le_refl (2 ^ 22 * (0 * k + u * 2 ^ 179))) (le_of_eq ck)),
      le_trans (at_22 (0 * k + u * 2 ^ 179) (v * k + d * 2 ^ 179) (k * q) (second (v * k) (2 ^ 57 * d * q) (d * 2 ^ 179) (0 * k) (2 ^ 57 * u * q) (u * 2 ^ 179) (2 ^ 35 * k * q) (2 ^ 35 * (k * q)) c.1 (zero-mul k) (moved (2 ^ 57) d q) (moved (2 ^ 57) u q) (mul_assoc (2 ^ 35) k q))) (add-le-add (le_refl (2 ^ 22 * (v * k + d * 2 ^ 179))) (le_of_eq ck)),
    )
  where
    moved : (s d q : ℕ) → s * d * q ≡ d * (s * q)
    moved s d q = simp (mul_assoc, mul_left_comm)

    shared : (s k q : ℕ) → s * (k * q) ≡ s * q * k
    shared s k q = simp (mul_assoc, mul_comm)

    at_22 : (x y e : ℕ) → x ≤ y + 2 ^ 35 * e → 2 ^ 22 * x ≤ 2 ^ 22 * y + 2 ^ 57 * e
    at_22 x y e h = omega arith

    first : (A B B' Z C C' E E' : ℕ) → A + B ≤ C + E → B ≡ B' → C ≡ C' → E ≡ E' → A + B' ≤ Z + C' + E'
    first A B B' Z C C' E E' h b c e = omega arith

    second : (A B B' Z C C' E E' : ℕ) → C ≤ A + B + E → Z ≡ 0 → B ≡ B' → C ≡ C' → E ≡ E' → Z + C' ≤ A + B' + E'
    second A B B' Z C C' E E' h z b c e = omega arith

-- ---- from the fraction v / c to the float's own
transfer : (t X Y X' Y' c c' k : ℕ) → 0 < c → X' * c ≡ X * c' → Y' * c ≡ Y * c' → t * X ≤ t * Y + c * k → t * X' ≤ t * Y' + c' * k
transfer t X Y X' Y' c c' k C e f h =
    le_of_mul-le-mul_right {k = c}
    (le_trans (le_of_eq (mul_assoc t X' c ∙ ap (λ (z : ℕ). t * z) e ∙ sym (mul_assoc t X c')))
    (le_trans (mul-le-mul_right c' h)
    (le_of_eq (add-mul (t * Y) (c * k) c' ∙ ap (λ (z : ℕ). z + c * k * c') (mul_assoc t Y c' ∙ ap (λ (z : ℕ). t * z) (sym f) ∙ sym (mul_assoc t Y' c)) ∙ ap (λ (z : ℕ). t * Y' * c + z) (around c k c') ∙ sym (add-mul (t * Y') (c' * k) c)))))
    C
  where
    around : (c k c' : ℕ) → c * k * c' ≡ c' * k * c
    around c k c' = simp (mul_assoc, mul_comm, mul_left_comm)

scaled_sum : (p c p' c' d k : ℕ) → p' * c ≡ p * c' → (p' * k + d * c') * c ≡ (p * k + d * c) * c'
scaled_sum p c p' c' d k e =
    add-mul (p' * k) (d * c') c
    ∙ ap (λ (z : ℕ). z + d * c' * c) (mul_right_comm p' k c ∙ ap (λ (z : ℕ). z * k) e ∙ mul_right_comm p c' k)
    ∙ ap (λ (z : ℕ). p * k * c' + z) (mul_right_comm d c' c)
    ∙ sym (add-mul (p * k) (d * c) c')

rescaled : (p q c p' q' c' u d k : ℕ) → 0 < c → p' * c ≡ p * c' → q' * c ≡ q * c' → Within22 p q c u d k → Within22 p' q' c' u d k
rescaled p q c p' q' c' u d k C e f h =
    let x = scaled_sum p c p' c' d k e in
    let y = scaled_sum q c q' c' u k f in (
      transfer (2 ^ 22) (p * k + d * c) (q * k + u * c) (p' * k + d * c') (q' * k + u * c') c c' k C x y h.0,
      transfer (2 ^ 22) (q * k + u * c) (p * k + d * c) (q' * k + u * c') (p' * k + d * c') c c' k C y x h.1,
    )

-- a number of the sign t and the magnitude v / c, where v / c is near to (u - d) / k
signed_near : (t : Bool) (r : Float) (v c u d k : ℕ) → 0 < c → HasValue r t v c → Within22 v 0 c u d k → NearTo r (cond t d u) (cond t u d) k
signed_near t nan v c u d k C h w = absurd h
signed_near t (inf s) v c u d k C h w = absurd h
signed_near false (fin false m e) v c u d k C h w = rescaled v 0 c (m * up e) 0 (down e) u d k C h.1 (zero-mul c ∙ sym (zero-mul (down e))) w
signed_near true (fin true m e) v c u d k C h w = rescaled 0 v c 0 (m * up e) (down e) d u k C (zero-mul c ∙ sym (zero-mul (down e))) h.1 (w.1, w.0)
signed_near false (fin true m e) v c u d k C h w = absurd (true≢false h.0)
signed_near true (fin false m e) v c u d k C h w = absurd (true≢false (sym h.0))

pub difference_near : (s : Bool) (p m u d k : ℕ) → Differ p m → Near (2 ^ 57) u k p 64 → Near (2 ^ 57) d k m 64 → NearTo (difference s p m) (cond s d u) (cond s u d) k
unfolding difference
difference_near s p m u d k D P M = go (ltb p m) refl
  where
    turned : (s : Bool) → NearTo (from_units (not s) (m - p)) (cond (not s) u d) (cond (not s) d u) k → NearTo (from_units (not s) (m - p)) (cond s d u) (cond s u d) k
    turned false h = h
    turned true h = h

    go : (b : Bool) → ltb p m ≡ b → NearTo (cond b (from_units (not s) (m - p)) (from_units s (p - m))) (cond s d u) (cond s u d) k
    go true q = turned s (signed_near (not s) (from_units (not s) (m - p)) (grid binary32 ((m - p) / 2 ^ 27) 1) (2 ^ 179) d u k (lit< tt) (units_value (not s) (m - p) (wider (m - p) (short m p D.1))) (close m p d u k (D.1, D.0) (le_of_lt (ltb-true p m q)) M P))
    go false q = signed_near s (from_units s (p - m)) (grid binary32 ((p - m) / 2 ^ 27) 1) (2 ^ 179) u d k (lit< tt) (units_value s (p - m) (wider (p - m) (short p m D.0))) (close p m u d k D (ltb-false p m q) P M)

-- ---- the magnitude of what is returned: NaN, or at most 2
abbrev pub UpTo2 : Float → Type 0
UpTo2 nan = Unit
UpTo2 (inf s) = ⊥
UpTo2 (fin s m e) = m * up e ≤ 2 * down e

at_most_2 : (r : Float) (t : Bool) (v c : ℕ) → 0 < c → HasValue r t v c → v ≤ 2 * c → UpTo2 r
at_most_2 nan t v c C h l = tt
at_most_2 (inf s) t v c C h l = h
at_most_2 (fin s m e) t v c C h l = le_of_mul-le-mul_right {k = c} (le_trans (le_of_eq h.1) (le_trans (mul-le-mul_right (down e) l) (le_of_eq (mul_right_comm 2 c (down e))))) C

units_at_most : (s : Bool) (d : ℕ) → d < 7 * 2 ^ 55 → UpTo2 (from_units s d)
units_at_most s d h =
    let k = d / 2 ^ 27 in
    let v = grid binary32 k 1 in
    at_most_2 (from_units s d) s v (2 ^ 179) (lit< tt) (units_value s d (wider d h))
    (le_trans (halves_above v k (rounded k (cut_lt d (wider d h))).0) (le_trans (mul-le-mul_right (2 ^ 122) (room d h)) (lit≤ tt)))
  where
    room : (d : ℕ) → d < 7 * 2 ^ 55 → d / 2 ^ 27 * 2 ^ 27 + 2 ^ 34 ≤ 2 ^ 58
    room d h = omega arith

pub difference_at_most : (s : Bool) (p m : ℕ) → Differ p m → UpTo2 (difference s p m)
unfolding difference
difference_at_most s p m D = go (ltb p m)
  where
    go : (b : Bool) → UpTo2 (cond b (from_units (not s) (m - p)) (from_units s (p - m)))
    go true = units_at_most (not s) (m - p) (short m p D.1)
    go false = units_at_most s (p - m) (short p m D.0)
