-- How much the sine and cosine series change from a / b to (a + 1) / b: a power rises by at least its slope at the lower end and at most its slope at the upper end, and the slopes of
-- the sine's terms are the cosine's, those of the cosine's the sine's. Assumes nothing.
use Rattle.std.proofs.Common.{◌≡◌, ℕ, zero, suc, ◌+◌, ◌*◌, ◌^◌, ◌<◌, ◌≤◌, Bool, true, false, ◌&&◌, T, eqb, List, [], ◌∷◌, ◌++◌, length, sym, refl, ap, ◌∙◌, subst, zero-le, le_trans, le_of_eq, le_refl, lt_of_lt_of_le, le-add_right, lt_of_le_of_lt, add_assoc, add-le-add, mul-le-mul_right, mul_assoc, suc-mul, mul_comm, add-mul, mul-le-mul, add_comm, mul-le-mul_left, mul-lt-mul_of_pos_right, mul-pos, one-mul, pow-suc, mul-zero, zero-mul, mul-one, mul-add, mul_left_comm, arith, lit<, eqb→eq}
use native.Mathlib.Nat.{add_left_comm, pow-zero}
use lib.Ieee.Fits.{and_l, and_r}
use Rattle.angles.proofs.SeriesLaws.{pow_1, pow_2, pow_3}
use Rattle.angles.proofs.Error.{rest}
use Rattle.angles.specs.Series.{sum_of, fourth, d24, cos_plus_terms, cos_minus_terms, sin_plus_terms, sin_minus_terms, sin_up, sin_down, cos_up, cos_down}

-- ---- a power

abbrev s4 : ℕ → ℕ
s4 p = suc (suc (suc (suc p)))

rises_step : (a q : ℕ) → a ^ suc q + suc q * a ^ q ≤ (a + 1) ^ suc q → a ^ suc (suc q) + suc (suc q) * a ^ suc q ≤ (a + 1) ^ suc (suc q)
rises_step a q h =
    let x = a ^ q in
    let e : a ^ suc q ≡ x * a = pow-suc a q in
    let f : a ^ suc (suc q) ≡ x * a * a = pow-suc a (suc q) ∙ ap (λ (w : ℕ). w * a) e in
    let g : (a + 1) ^ suc (suc q) ≡ (a + 1) ^ suc q * (a + 1) = pow-suc (a + 1) (suc q) in
    let k : (x * a + suc q * x) * (a + 1) ≤ (a + 1) ^ suc q * (a + 1) = mul-le-mul_right (a + 1) (subst (λ (w : ℕ). w + suc q * x ≤ (a + 1) ^ suc q) e h) in
    let l : (x * a + suc q * x) * (a + 1) ≡ x * a * a + suc (suc q) * (x * a) + suc q * x = simp (suc-mul, mul-add, add-mul, mul-one, mul_assoc, mul_comm, mul_left_comm, add_assoc, add_comm, add_left_comm) in
    rw (f, g, e) (le_trans (le-add_right (x * a * a + suc (suc q) * (x * a)) (suc q * x)) (le_trans (le_of_eq (sym l)) k))

pow_rises : (a q : ℕ) → a ^ suc q + suc q * a ^ q ≤ (a + 1) ^ suc q
pow_rises a zero = le_of_eq (simp (pow_1, pow-zero, mul-one))
pow_rises a (suc q) = rises_step a q (pow_rises a q)

most_step : (a q : ℕ) → (a + 1) ^ suc q ≤ a ^ suc q + suc q * (a + 1) ^ q → (a + 1) ^ suc (suc q) ≤ a ^ suc (suc q) + suc (suc q) * (a + 1) ^ suc q
most_step a q h =
    let z = (a + 1) ^ q in
    let x = a ^ suc q in
    let e : (a + 1) ^ suc q ≡ z * (a + 1) = pow-suc (a + 1) q in
    let f : a ^ suc (suc q) ≡ x * a = pow-suc a (suc q) in
    let g : (a + 1) ^ suc (suc q) ≡ z * (a + 1) * (a + 1) = pow-suc (a + 1) (suc q) ∙ ap (λ (w : ℕ). w * (a + 1)) e in
    let k : z * (a + 1) * a ≤ (x + suc q * z) * a = mul-le-mul_right a (subst (λ (w : ℕ). w ≤ x + suc q * z) e h) in
    let l : z * (a + 1) * (a + 1) ≡ z * (a + 1) * a + z * (a + 1) = simp (mul-add, add-mul, mul-one, mul_assoc, mul_comm, mul_left_comm, add_assoc, add_comm, add_left_comm) in
    let r : (x + suc q * z) * a + z * (a + 1) + suc q * z ≡ x * a + suc (suc q) * (z * (a + 1)) = simp (suc-mul, mul-add, add-mul, mul-one, mul_assoc, mul_comm, mul_left_comm, add_assoc, add_comm, add_left_comm) in
    rw (f, g, e) (le_trans (le_of_eq l) (le_trans (add-le-add k (le_refl (z * (a + 1)))) (le_trans (le-add_right ((x + suc q * z) * a + z * (a + 1)) (suc q * z)) (le_of_eq r))))

pow_rises_most : (a q : ℕ) → (a + 1) ^ suc q ≤ a ^ suc q + suc q * (a + 1) ^ q
pow_rises_most a zero = le_of_eq (simp (pow_1, pow-zero, mul-one))
pow_rises_most a (suc q) = most_step a q (pow_rises_most a q)

-- ---- a sum of powers, four apart

terms : ℕ → List ℕ → ℕ → ℕ → ℕ
terms p [] a m = 0
terms p (c ∷ cs) a m = c * m ^ length cs * a ^ p + terms (s4 p) cs a m

slopes : ℕ → List ℕ → ℕ → ℕ → ℕ
slopes p [] a m = 0
slopes p (c ∷ cs) a m = c * m ^ length cs * (suc p * a ^ p) + slopes (s4 p) cs a m

swap : (u v w z : ℕ) → u + v + (w + z) ≡ u + w + (v + z)
swap u v w z = omega arith

terms_rise : (p : ℕ) (cs : List ℕ) (a m : ℕ) → terms (suc p) cs a m + slopes p cs a m ≤ terms (suc p) cs (a + 1) m
unfolding terms slopes
terms_rise p [] a m = le_refl 0
terms_rise p (c ∷ cs) a m =
    let k = c * m ^ length cs in
    le_trans (le_of_eq (swap (k * a ^ suc p) (terms (s4 (suc p)) cs a m) (k * (suc p * a ^ p)) (slopes (s4 p) cs a m)))
    (add-le-add (le_trans (le_of_eq (sym (mul-add k (a ^ suc p) (suc p * a ^ p)))) (mul-le-mul_left k (pow_rises a p))) (terms_rise (s4 p) cs a m))

terms_rise_most : (p : ℕ) (cs : List ℕ) (a m : ℕ) → terms (suc p) cs (a + 1) m ≤ terms (suc p) cs a m + slopes p cs (a + 1) m
unfolding terms slopes
terms_rise_most p [] a m = le_refl 0
terms_rise_most p (c ∷ cs) a m =
    let k = c * m ^ length cs in
    le_trans (add-le-add (le_trans (mul-le-mul_left k (pow_rises_most a p)) (le_of_eq (mul-add k (a ^ suc p) (suc p * (a + 1) ^ p)))) (terms_rise_most (s4 p) cs a m))
    (le_of_eq (swap (k * a ^ suc p) (k * (suc p * (a + 1) ^ p)) (terms (s4 (suc p)) cs a m) (slopes (s4 p) cs (a + 1) m)))

-- ---- the slopes of one list are f times the terms of another

matched : ℕ → ℕ → List ℕ → List ℕ → Bool
matched f p [] [] = true
matched f p [] (e ∷ es) = false
matched f p (c ∷ cs) [] = false
matched f p (c ∷ cs) (e ∷ es) = eqb (c * suc p) (f * e) && matched f (s4 p) cs es

same_length : (f p : ℕ) (cs es : List ℕ) → T (matched f p cs es) → length cs ≡ length es
unfolding matched
same_length f p [] [] t = refl
same_length f p [] (e ∷ es) t = absurd t
same_length f p (c ∷ cs) [] t = absurd t
same_length f p (c ∷ cs) (e ∷ es) t = ap suc (same_length f (s4 p) cs es (and_r (eqb (c * suc p) (f * e)) (matched f (s4 p) cs es) t))

slopes_are : (f p : ℕ) (cs es : List ℕ) (a m : ℕ) → T (matched f p cs es) → slopes p cs a m ≡ f * terms p es a m
unfolding terms slopes matched
slopes_are f p [] [] a m t = sym (mul-zero f)
slopes_are f p [] (e ∷ es) a m t = absurd t
slopes_are f p (c ∷ cs) [] a m t = absurd t
slopes_are f p (c ∷ cs) (e ∷ es) a m t =
    let q : c * suc p ≡ f * e = eqb→eq (c * suc p) (f * e) (and_l (eqb (c * suc p) (f * e)) (matched f (s4 p) cs es) t) in
    let t' = and_r (eqb (c * suc p) (f * e)) (matched f (s4 p) cs es) t in
    let x : c * m ^ length cs * (suc p * a ^ p) ≡ f * (e * m ^ length es * a ^ p) =
    ap (λ (n : ℕ). c * m ^ n * (suc p * a ^ p)) (same_length f (s4 p) cs es t') ∙ one f c e (suc p) (m ^ length es) (a ^ p) q in
    ap (λ (w : ℕ). w + slopes (s4 p) cs a m) x ∙ ap (λ (w : ℕ). f * (e * m ^ length es * a ^ p) + w) (slopes_are f (s4 p) cs es a m t') ∙ sym (mul-add f (e * m ^ length es * a ^ p) (terms (s4 p) es a m))
  where
    one : (f c e s k z : ℕ) → c * s ≡ f * e → c * k * (s * z) ≡ f * (e * k * z)
    one f c e s k z q =
        let l : c * k * (s * z) ≡ c * s * (k * z) = simp (mul_assoc, mul_comm, mul_left_comm) in
        let r : f * e * (k * z) ≡ f * (e * k * z) = simp (mul_assoc, mul_comm, mul_left_comm) in
        l ∙ ap (λ (w : ℕ). w * (k * z)) q ∙ r

-- ---- `terms` and `sum_of`

fourth_pow : (a p : ℕ) → a ^ s4 p ≡ a ^ p * fourth a
fourth_pow a p = simp (pow-suc, mul_assoc)

sum_terms : (p : ℕ) (cs : List ℕ) (a m : ℕ) → a ^ p * sum_of cs (fourth a) m ≡ terms p cs a m
unfolding sum_of terms
sum_terms p [] a m = mul-zero (a ^ p)
sum_terms p (c ∷ cs) a m =
    let s = sum_of cs (fourth a) m in
    mul-add (a ^ p) (c * m ^ length cs) (fourth a * s)
    ∙ ap (λ (w : ℕ). w + a ^ p * (fourth a * s)) (mul_comm (a ^ p) (c * m ^ length cs))
    ∙ ap (λ (w : ℕ). c * m ^ length cs * a ^ p + w) (sym (mul_assoc (a ^ p) (fourth a) s) ∙ ap (λ (w : ℕ). w * s) (sym (fourth_pow a p)) ∙ sum_terms (s4 p) cs a m)

-- ---- the slope of the sine's terms is 25 times the cosine's

plus_slope : T (matched 25 0 sin_plus_terms cos_plus_terms)
unfolding matched
plus_slope = tt

minus_slope : T (matched 25 2 sin_minus_terms cos_minus_terms)
unfolding matched
minus_slope = tt

pub up_rises : (a b : ℕ) → sin_up a b + 25 * cos_up a b ≤ sin_up (a + 1) b
unfolding sin_up cos_up
up_rises a b =
    let m = fourth b in
    let e : (x : ℕ) → x * sum_of sin_plus_terms (fourth x) m ≡ terms 1 sin_plus_terms x m = λ (x : ℕ). ap (λ (w : ℕ). w * sum_of sin_plus_terms (fourth x) m) (sym (pow_1 x)) ∙ sum_terms 1 sin_plus_terms x m in
    let f : sum_of cos_plus_terms (fourth a) m ≡ terms 0 cos_plus_terms a m = sym (one-mul (sum_of cos_plus_terms (fourth a) m)) ∙ ap (λ (w : ℕ). w * sum_of cos_plus_terms (fourth a) m) (sym (pow-zero a)) ∙ sum_terms 0 cos_plus_terms a m in
    le_trans (le_of_eq (ap (λ (w : ℕ). w + 25 * sum_of cos_plus_terms (fourth a) m) (e a) ∙ ap (λ (w : ℕ). terms 1 sin_plus_terms a m + 25 * w) f ∙ ap (λ (w : ℕ). terms 1 sin_plus_terms a m + w) (sym (slopes_are 25 0 sin_plus_terms cos_plus_terms a m plus_slope))))
    (le_trans (terms_rise 0 sin_plus_terms a m) (le_of_eq (sym (e (a + 1)))))

pub down_rises : (a b : ℕ) → sin_down (a + 1) b ≤ sin_down a b + 25 * cos_down (a + 1) b
unfolding sin_down cos_down
down_rises a b =
    let m = fourth b in
    let e : (x : ℕ) → x * (x * x) * sum_of sin_minus_terms (fourth x) m ≡ terms 3 sin_minus_terms x m = λ (x : ℕ). ap (λ (w : ℕ). w * sum_of sin_minus_terms (fourth x) m) (sym (pow_3 x)) ∙ sum_terms 3 sin_minus_terms x m in
    let f : (x : ℕ) → x * x * sum_of cos_minus_terms (fourth x) m ≡ terms 2 cos_minus_terms x m = λ (x : ℕ). ap (λ (w : ℕ). w * sum_of cos_minus_terms (fourth x) m) (sym (pow_2 x)) ∙ sum_terms 2 cos_minus_terms x m in
    let h : terms 3 sin_minus_terms (a + 1) m ≤ terms 3 sin_minus_terms a m + 25 * terms 2 cos_minus_terms (a + 1) m = le_trans (terms_rise_most 2 sin_minus_terms a m) (le_of_eq (ap (λ (w : ℕ). terms 3 sin_minus_terms a m + w) (slopes_are 25 2 sin_minus_terms cos_minus_terms (a + 1) m minus_slope))) in
    let k : (t3 t3' t2 s : ℕ) → t3' ≤ t3 + 25 * t2 → t3' * s ≤ t3 * s + 25 * (t2 * s) = λ (t3 : ℕ) (t3' : ℕ) (t2 : ℕ) (s : ℕ) (w : t3' ≤ t3 + 25 * t2). le_trans (mul-le-mul_right s w) (le_of_eq (add-mul t3 (25 * t2) s ∙ ap (λ (z : ℕ). t3 * s + z) (mul_assoc 25 t2 s))) in
    rw (e a, e (a + 1), f (a + 1)) (k (terms 3 sin_minus_terms a m) (terms 3 sin_minus_terms (a + 1) m) (terms 2 cos_minus_terms (a + 1) m) (b * b) h)

sum_mono : (cs : List ℕ) (y y' m : ℕ) → y ≤ y' → sum_of cs y m ≤ sum_of cs y' m
unfolding sum_of
sum_mono [] y y' m h = le_refl 0
sum_mono (c ∷ cs) y y' m h = add-le-add (le_refl (c * m ^ length cs)) (mul-le-mul h (sum_mono cs y y' m h))

fourth_mono : (a c : ℕ) → a ≤ c → fourth a ≤ fourth c
fourth_mono a c h = mul-le-mul (mul-le-mul h h) (mul-le-mul h h)

pub cos_up_mono : (a c b : ℕ) → a ≤ c → cos_up a b ≤ cos_up c b
unfolding cos_up
cos_up_mono a c b h = sum_mono cos_plus_terms (fourth a) (fourth c) (fourth b) (fourth_mono a c h)

pub cos_down_mono : (a c b : ℕ) → a ≤ c → cos_down a b ≤ cos_down c b
unfolding cos_down
cos_down_mono a c b h = mul-le-mul_right (b * b) (mul-le-mul (mul-le-mul h h) (sum_mono cos_minus_terms (fourth a) (fourth c) (fourth b) (fourth_mono a c h)))

-- ---- the slope of the cosine's terms: 24! / (4 j + 1)! and 24! / (4 j + 3)!
abbrev fall_terms : List ℕ
fall_terms = 620448401733239439360000 ∷ 5170403347776995328000 ∷ 1709789466857472000 ∷ 99638080819200 ∷ 1744364160 ∷ 12144 ∷ []

abbrev rise_terms : List ℕ
rise_terms = 103408066955539906560000 ∷ 123104841613737984000 ∷ 15543540607795200 ∷ 474467051520 ∷ 5100480 ∷ 24 ∷ []

unfoldable pub fall_of : ℕ → ℕ → ℕ
unfolding sum_of
fall_of b a = a * sum_of fall_terms (fourth a) (fourth b) * (b * b)

unfoldable pub rise_of : ℕ → ℕ → ℕ
unfolding sum_of
rise_of b a = a * (a * a) * sum_of rise_terms (fourth a) (fourth b)

fall_slope : T (matched 1 1 cos_minus_terms fall_terms)
unfolding matched
fall_slope = tt

rise_slope : T (matched 1 3 (rest cos_plus_terms) rise_terms)
unfolding matched
rise_slope = tt

pub cos_down_rises : (a b : ℕ) → cos_down a b + fall_of b a ≤ cos_down (a + 1) b
unfolding cos_down fall_of
cos_down_rises a b =
    let m = fourth b in
    let f : (x : ℕ) → x * x * sum_of cos_minus_terms (fourth x) m ≡ terms 2 cos_minus_terms x m = λ (x : ℕ). ap (λ (w : ℕ). w * sum_of cos_minus_terms (fourth x) m) (sym (pow_2 x)) ∙ sum_terms 2 cos_minus_terms x m in
    let e : a * sum_of fall_terms (fourth a) m ≡ terms 1 fall_terms a m = ap (λ (w : ℕ). w * sum_of fall_terms (fourth a) m) (sym (pow_1 a)) ∙ sum_terms 1 fall_terms a m in
    let h : terms 2 cos_minus_terms a m + terms 1 fall_terms a m ≤ terms 2 cos_minus_terms (a + 1) m = le_trans (le_of_eq (ap (λ (w : ℕ). terms 2 cos_minus_terms a m + w) (sym (slopes_are 1 1 cos_minus_terms fall_terms a m fall_slope ∙ one-mul (terms 1 fall_terms a m))))) (terms_rise 1 cos_minus_terms a m) in
    rw (f a, f (a + 1), e) (le_trans (le_of_eq (sym (add-mul (terms 2 cos_minus_terms a m) (terms 1 fall_terms a m) (b * b)))) (mul-le-mul_right (b * b) h))

pub cos_up_rises : (a b : ℕ) → cos_up (a + 1) b ≤ cos_up a b + rise_of b (a + 1)
unfolding cos_up rise_of terms
cos_up_rises a b =
    let m = fourth b in
    let cs : List ℕ = rest cos_plus_terms in
    let f : (x : ℕ) → sum_of cos_plus_terms (fourth x) m ≡ d24 * m ^ 6 * 1 + terms 4 cs x m = λ (x : ℕ). sym (one-mul (sum_of cos_plus_terms (fourth x) m)) ∙ ap (λ (w : ℕ). w * sum_of cos_plus_terms (fourth x) m) (sym (pow-zero x)) ∙ sum_terms 0 cos_plus_terms x m ∙ ap (λ (w : ℕ). d24 * m ^ 6 * w + terms 4 cs x m) (pow-zero x) in
    let e : (a + 1) * ((a + 1) * (a + 1)) * sum_of rise_terms (fourth (a + 1)) m ≡ terms 3 rise_terms (a + 1) m = ap (λ (w : ℕ). w * sum_of rise_terms (fourth (a + 1)) m) (sym (pow_3 (a + 1))) ∙ sum_terms 3 rise_terms (a + 1) m in
    let h : terms 4 cs (a + 1) m ≤ terms 4 cs a m + terms 3 rise_terms (a + 1) m = le_trans (terms_rise_most 3 cs a m) (le_of_eq (ap (λ (w : ℕ). terms 4 cs a m + w) (slopes_are 1 3 cs rise_terms (a + 1) m rise_slope ∙ one-mul (terms 3 rise_terms (a + 1) m)))) in
    rw (f a, f (a + 1), e) (le_trans (add-le-add (le_refl (d24 * m ^ 6 * 1)) h) (le_of_eq (sym (add_assoc (d24 * m ^ 6 * 1) (terms 4 cs a m) (terms 3 rise_terms (a + 1) m)))))

pub fall_of_mono : (b a c : ℕ) → a ≤ c → fall_of b a ≤ fall_of b c
unfolding fall_of
fall_of_mono b a c h = mul-le-mul_right (b * b) (mul-le-mul h (sum_mono fall_terms (fourth a) (fourth c) (fourth b) (fourth_mono a c h)))

pub rise_of_mono : (b a c : ℕ) → a ≤ c → rise_of b a ≤ rise_of b c
unfolding rise_of
rise_of_mono b a c h = mul-le-mul (mul-le-mul h (mul-le-mul h h)) (sum_mono rise_terms (fourth a) (fourth c) (fourth b) (fourth_mono a c h))

-- ---- by how much the series itself changes

pub sin_rises : (a b g : ℕ) → cos_down (a + 1) b + g ≤ cos_up a b → sin_up a b + sin_down (a + 1) b + 25 * g ≤ sin_up (a + 1) b + sin_down a b
sin_rises a b g h = sum (sin_up a b) (sin_up (a + 1) b) (sin_down a b) (sin_down (a + 1) b) (cos_up a b) (cos_down (a + 1) b) (up_rises a b) (down_rises a b) h
  where
    sum : (p p' n n' c d : ℕ) → p + 25 * c ≤ p' → n' ≤ n + 25 * d → d + g ≤ c → p + n' + 25 * g ≤ p' + n
    sum p p' n n' c d h k l = omega arith

pub cos_falls : (a b g : ℕ) → rise_of b (a + 1) + g ≤ fall_of b a → cos_up (a + 1) b + cos_down a b + g ≤ cos_up a b + cos_down (a + 1) b
cos_falls a b g h = sum (cos_up a b) (cos_up (a + 1) b) (cos_down a b) (cos_down (a + 1) b) (fall_of b a) (rise_of b (a + 1)) (cos_up_rises a b) (cos_down_rises a b) h
  where
    sum : (p p' n n' f r : ℕ) → p' ≤ p + r → n + f ≤ n' → r + g ≤ f → p' + n + g ≤ p + n'
    sum p p' n n' f r h k l = omega arith

-- ---- where the cosine falls, the sine series is above 0: it has the terms of that slope, and one more

times : ℕ → List ℕ → List ℕ
times f [] = []
times f (c ∷ cs) = f * c ∷ times f cs

length_times : (f : ℕ) (cs : List ℕ) → length (times f cs) ≡ length cs
unfolding times
length_times f [] = refl
length_times f (c ∷ cs) = ap suc (length_times f cs)

sum_times : (f : ℕ) (cs : List ℕ) (y m : ℕ) → sum_of (times f cs) y m ≡ f * sum_of cs y m
unfolding times sum_of
sum_times f [] y m = sym (mul-zero f)
sum_times f (c ∷ cs) y m = ap (λ (n : ℕ). f * c * m ^ n + y * sum_of (times f cs) y m) (length_times f cs) ∙ ap (λ (s : ℕ). f * c * m ^ length cs + y * s) (sum_times f cs y m) ∙ one f (m ^ length cs) (sum_of cs y m)
  where
    one : (f k s : ℕ) → f * c * k + y * (f * s) ≡ f * (c * k + y * s)
    one f k s = simp (mul-add, mul_assoc, mul_comm, mul_left_comm)

length_snoc : (cs : List ℕ) (c : ℕ) → length (cs ++ (c ∷ [])) ≡ suc (length cs)
length_snoc [] c = refl
length_snoc (b ∷ cs) c = ap suc (length_snoc cs c)

sum_snoc : (cs : List ℕ) (c y m : ℕ) → sum_of cs y m * m ≤ sum_of (cs ++ (c ∷ [])) y m
unfolding sum_of
sum_snoc [] c y m = le_trans (le_of_eq (zero-mul m)) zero-le
sum_snoc (b ∷ cs) c y m =
    let k = m ^ length cs in
    let s = sum_of cs y m in
    let e : (b * k + y * s) * m ≡ b * (k * m) + y * (s * m) = simp (add-mul, mul_assoc) in
    let f : m ^ length (cs ++ (c ∷ [])) ≡ k * m = ap (λ (n : ℕ). m ^ n) (length_snoc cs c) ∙ pow-suc m (length cs) in
    le_trans (le_of_eq (e ∙ ap (λ (w : ℕ). b * w + y * (s * m)) (sym f))) (add-le-add (le_refl (b * m ^ length (cs ++ (c ∷ [])))) (mul-le-mul_left y (sum_snoc cs c y m)))

up_covers : (a b : ℕ) → fall_of b a * (25 * (b * b)) ≤ sin_up a b
unfolding fall_of sin_up times
up_covers a b =
    let s = sum_of fall_terms (fourth a) (fourth b) in
    let e : a * s * (b * b) * (25 * (b * b)) ≡ a * (25 * s * fourth b) = simp (mul_assoc, mul_comm, mul_left_comm) in
    le_trans (le_of_eq (e ∙ ap (λ (w : ℕ). a * (w * fourth b)) (sym (sum_times 25 fall_terms (fourth a) (fourth b))))) (mul-le-mul_left a (sum_snoc (times 25 fall_terms) 1 (fourth a) (fourth b)))

down_is : (a b : ℕ) → sin_down a b ≡ rise_of b a * (25 * (b * b))
unfolding rise_of sin_down times
down_is a b =
    let s = sum_of rise_terms (fourth a) (fourth b) in
    let e : a * (a * a) * (25 * s) * (b * b) ≡ a * (a * a) * s * (25 * (b * b)) = simp (mul_assoc, mul_comm, mul_left_comm) in
    ap (λ (w : ℕ). a * (a * a) * w * (b * b)) (sum_times 25 rise_terms (fourth a) (fourth b)) ∙ e

pub sin_above_0 : (a b : ℕ) → 0 < b → rise_of b a < fall_of b a → sin_down a b < sin_up a b
sin_above_0 a b B h =
    lt_of_le_of_lt (le_of_eq (down_is a b)) (lt_of_lt_of_le (mul-lt-mul_of_pos_right h (mul-pos (lit< tt) (mul-pos B B))) (up_covers a b))
