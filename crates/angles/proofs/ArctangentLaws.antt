-- The arctangent's test can fail at no step and hold at a later one, so that whoever finds a step with the test holding before and failing at it has found the recipe's; and its tangent series,
-- any number of steps below and above, has the argument between. Assumes nothing.
use Rattle.std.proofs.Common.{◌≡◌, ℕ, ◌+◌, ◌-◌, ◌*◌, ◌^◌, ◌<◌, ◌≤◌, true, false, T, sym, refl, subst, inl, inr, le_trans, le_of_eq, le_refl, lt_of_lt_of_le, le_of_lt, lt_irrefl, mul-le-mul_right, add-mul, mul-le-mul_left, mul-pos, lt_of_not-le, mul-add, arith, lit<, lit≤, le-leb, leb-false, leb-true}
use native.Mathlib.Nat.{le_of_mul-le-mul_left, lt_of_mul-lt-mul_left}
use native.Mathlib.Decide.{dec_le}
use lib.Ieee.{Float, nan, lt, is_nan}
use Rattle.angles.specs.Series.{Near, fixed, sin_den, sin_plus, sin_minus, cos_plus, cos_minus, cos_den}
use Rattle.angles.proofs.Near.{compared}
use Rattle.angles.proofs.Steps.{cos_positive_half}
use Rattle.angles.specs.Grid.{odd_half, zero32, in_steps}
use Rattle.angles.proofs.BracketLaws.{Brackets, brackets}
use Rattle.angles.specs.Requires.{Falls}
use Rattle.angles.proofs.LeastLaws.{Found, least_found, unique}
use Rattle.angles.specs.Arctangent.{atan_low, atan_high, tan_below, atan_top, atan_steps, atan_units, atan_of}
use Rattle.angles.proofs.TangentSteps.{bend}
use Rattle.angles.proofs.TangentClimbs.{Climbs, unit, left, right, further, level, climbs_low, climbs_high, left_before, right_after, past_bend, greater}
use Rattle.angles.proofs.ArctangentNear.{sine_side, sine_side_near, cosine_side_near}

-- ---- what the test says of the series

den_pos : 0 < sin_den (2 ^ 23)
unfolding sin_den
den_pos = lit< tt

cos_den_pos : 0 < cos_den (2 ^ 23)
cos_den_pos = lit< tt

unit_pos : (y : ℕ) → 0 < y → 0 < unit y
unit_pos y h = mul-pos den_pos (mul-pos cos_den_pos h)

-- on plain numbers: l and r are the series' sides, p and n their evaluations, u the unit
below_arith : (s l r u p n : ℕ) → 0 < u → s * l ≤ (p + 12) * u → n * u ≤ s * r → p + 16 ≤ n → l < r
below_arith s l r u p n U L R h =
    lt_of_mul-lt-mul_left s (lt_of_lt_of_le (room (s * l) (p * u) u (le_trans L (le_of_eq (add-mul p 12 u))) U) (le_trans (le_of_eq (sym (add-mul p 16 u))) (le_trans (mul-le-mul_right u h) R)))
  where
    room : (x y u : ℕ) → x ≤ y + 12 * u → 0 < u → x < y + 16 * u
    room x y u h k = omega arith

fails_arith : (s l r l' r' u p n b : ℕ) → 0 < s → p * u ≤ s * l → s * r ≤ (n + 30) * u → n < p + 16 → 64 * u ≤ s * b → l + r' + b ≤ l' + r → r' ≤ l'
fails_arith s l r l' r' u p n b S L R h B I =
    le_of_mul-le-mul_left {k = s}
    (cancel (s * l) (s * r) (s * l') (s * r') (s * b) (p * u) (n * u) u
    L (le_trans R (le_of_eq (add-mul n 30 u))) (le_trans (mul-le-mul_right u (short p n h)) (le_of_eq (add-mul p 15 u))) B
    (le_trans (le_of_eq e) (le_trans (mul-le-mul_left s I) (le_of_eq (mul-add s l' r)))))
    S
  where
    short : (p n : ℕ) → n < p + 16 → n ≤ p + 15
    short p n h = omega arith

    e : s * l + s * r' + s * b ≡ s * (l + r' + b)
    e = simp mul-add

    cancel : (l r l' r' b p n u : ℕ) → p ≤ l → r ≤ n + 30 * u → n ≤ p + 15 * u → 64 * u ≤ b → l + r' + b ≤ l' + r → r' ≤ l'
    cancel l r l' r' b p n u h1 h2 h3 h4 h5 = omega arith

-- where the test holds, the tangent is below the argument
pub holds_at : (k t x y : ℕ) → k ≤ atan_top → t ≤ 2 ^ 63 → Near (2 ^ 40) x y t 1 → 0 < y → tan_below t k ≡ true → left (odd_half k) x y < right (odd_half k) x y
unfolding tan_below atan_low sine_side
holds_at k t x y K T at Y e =
    below_arith (2 ^ 33) (left (odd_half k) x y) (right (odd_half k) x y) (unit y) (sine_side t k) (atan_high t k) (unit_pos y Y)
    (sine_side_near k t x y K T at).1 (cosine_side_near k t x y K T at).0 (leb-true (sine_side t k + 16) (atan_high t k) e)

-- where it fails, the tangent a half step on is not: by what it climbs, or above 1.2
pub fails_at : (k t x y : ℕ) → k < atan_top → t ≤ 2 ^ 63 → Near (2 ^ 40) x y t 1 → tan_below t k ≡ false → right (odd_half k + 1) x y ≤ left (odd_half k + 1) x y
unfolding tan_below atan_low sine_side
fails_at k t x y K T at e = go (dec_le bend (odd_half k)) (dec_le (4 * x) y)
  where
    a : ℕ
    a = odd_half k

    K' : k ≤ atan_top
    K' = le_of_lt K

    in_range : (k : ℕ) → k < atan_top → odd_half k < 13176794
    in_range k h = omega arith

    on : (a : ℕ) → bend ≤ a → bend ≤ a + 1
    on a h = omega arith

    on_range : (k : ℕ) → k < atan_top → odd_half k + 1 ≤ 13176794
    on_range k h = omega arith

    more : (4 * x ≤ y → ⊥) → y ≤ 4 * x
    more f = omega arith

    by_climb : Climbs 64 a (a + 1) x y → right (a + 1) x y ≤ left (a + 1) x y
    by_climb c =
        fails_arith (2 ^ 33) (left a x y) (right a x y) (left (a + 1) x y) (right (a + 1) x y) (unit y) (sine_side t k) (atan_high t k) c.by (lit< tt)
        (sine_side_near k t x y K' T at).0 (cosine_side_near k t x y K' T at).1 (leb-false (sine_side t k + 16) (atan_high t k) e) c.enough c.climb

    go : Dec (bend ≤ a) → Dec (4 * x ≤ y) → right (a + 1) x y ≤ left (a + 1) x y
    go (yes h) (yes l) = past_bend (a + 1) x y (on a h) (on_range k K) l
    go (yes h) (no f) = by_climb (climbs_high a x y h (in_range k K) (more f))
    go (no f) d = by_climb (climbs_low a x y (lt_of_not-le f))

-- ---- the test holds before wherever it holds

itself : (t : ℕ) → Near (2 ^ 40) t (2 ^ 40) t 1
itself t = (omega arith, omega arith)

-- at k and the next
pub evaluated : (k t q : ℕ) → k < atan_top → t ≤ 2 ^ 63 → Climbs (42 + q) (odd_half k) (odd_half (k + 1)) t (2 ^ 40) → sine_side t k + atan_high t (k + 1) + q ≤ sine_side t (k + 1) + atan_high t k
evaluated k t q K T c =
    let x = t in
    let y = 2 ^ 40 in
    let a = odd_half k in
    let a' = odd_half (k + 1) in
    let k0 : k ≤ atan_top = le_of_lt K in
    let k1 : k + 1 ≤ atan_top = next k K in
    compared (left a x y) (right a' x y) (left a' x y) (right a x y) (unit y) (sine_side t k) (atan_high t (k + 1)) (sine_side t (k + 1)) (atan_high t k) 12 30 (2 ^ 33) c.by q (unit_pos y (lit< tt))
    (sine_side_near k t x y k0 T (itself t)).0 (cosine_side_near (k + 1) t x y k1 T (itself t)).0 (sine_side_near (k + 1) t x y k1 T (itself t)).1 (cosine_side_near k t x y k0 T (itself t)).1 c.enough c.climb
  where
    next : (k : ℕ) → k < atan_top → k + 1 ≤ atan_top
    next k h = omega arith

pub atan_falls : (t : ℕ) → t ≤ 2 ^ 63 → Falls (tan_below t) atan_top
unfolding tan_below atan_low sine_side
atan_falls t T k h e = go (dec_le bend (odd_half (k + 1))) (dec_le (4 * t) (2 ^ 40))
  where
    a : ℕ
    a = odd_half k

    two : (k : ℕ) → odd_half k + 1 + 1 ≡ odd_half (k + 1)
    two k = omega arith

    K : (k : ℕ) → k + 1 < atan_top → k < atan_top
    K k h = omega arith

    in_range : (k : ℕ) → k + 1 < atan_top → odd_half k < 13176794
    in_range k h = omega arith

    on_range : (k : ℕ) → k + 1 < atan_top → odd_half k + 1 + 1 ≤ 13176794
    on_range k h = omega arith

    end : (k : ℕ) → k + 1 < atan_top → odd_half (k + 1) ≤ 13176794
    end k h = omega arith

    lower : (k : ℕ) → (bend ≤ odd_half (k + 1) → ⊥) → odd_half k < bend
    lower k f = omega arith

    more : (t : ℕ) → (4 * t ≤ 2 ^ 40 → ⊥) → 2 ^ 40 ≤ 4 * t
    more t f = omega arith

    shift : (p p' n n' : ℕ) → p + n' + 22 ≤ p' + n → p' + 16 ≤ n' → p + 16 ≤ n
    shift p p' n n' h k = omega arith

    by_climb : Climbs 64 a (a + 1) t (2 ^ 40) → tan_below t k ≡ true
    by_climb c =
        le-leb (sine_side t k + 16) (atan_high t k)
        (shift (sine_side t k) (sine_side t (k + 1)) (atan_high t k) (atan_high t (k + 1))
        (evaluated k t 22 (K k h) T (subst (λ (z : ℕ). Climbs 64 a z t (2 ^ 40)) (two k) (further 64 0 a (a + 1) (a + 1 + 1) t (2 ^ 40) c (level (a + 1) 1 t (2 ^ 40) (on_range k h)))))
        (leb-true (sine_side t (k + 1) + 16) (atan_high t (k + 1)) e))

    go : Dec (bend ≤ odd_half (k + 1)) → Dec (4 * t ≤ 2 ^ 40) → tan_below t k ≡ true
    go (yes b) (yes l) = absurd (lt_irrefl (left (odd_half (k + 1)) t (2 ^ 40)) (lt_of_lt_of_le (holds_at (k + 1) t t (2 ^ 40) (le_of_lt h) T (itself t) (lit< tt) e) (past_bend (odd_half (k + 1)) t (2 ^ 40) b (end k h) l)))
    go (yes b) (no f) = high (dec_le bend a)
      where
        high : Dec (bend ≤ a) → tan_below t k ≡ true
        high (yes g) = by_climb (climbs_high a t (2 ^ 40) g (in_range k h) (more t f))
        high (no g) = by_climb (climbs_low a t (2 ^ 40) (lt_of_not-le g))
    go (no f) d = by_climb (climbs_low a t (2 ^ 40) (lower k f))

pub found : (t : ℕ) → Found (tan_below t) atan_top (atan_steps t)
unfolding atan_steps
found t = least_found (tan_below t) atan_top

-- whoever finds such a step has found the recipe's
pub found_is : (t k : ℕ) → t ≤ 2 ^ 63 → Found (tan_below t) atan_top k → k ≡ atan_steps t
unfolding atan_steps
found_is t k T f = unique (tan_below t) atan_top (atan_falls t T) k f

pub steps_within : (t : ℕ) → atan_steps t ≤ atan_top
steps_within t = (found t).within

-- ---- the tangent series w steps below and w steps above has the argument x / y between

abbrev Below : ℕ → ℕ → ℕ → Type 0
Below x y a = left a x y ≤ right a x y

abbrev Above : ℕ → ℕ → ℕ → Type 0
Above x y a = right a x y ≤ left a x y

abbrev pub Bracket : (w x y k : ℕ) → Type 0
Bracket w x y k = Brackets (Below x y) (Above x y) atan_top w k

pub atan_brackets : (w t x y : ℕ) → t ≤ 2 ^ 63 → Near (2 ^ 40) x y t 1 → 0 < y → Bracket w x y (atan_steps t)
atan_brackets w t x y T at Y =
    brackets (tan_below t) atan_top (Below x y) (Above x y) (λ (k : ℕ) (l : k < atan_top) (e : tan_below t k ≡ true). le_of_lt (holds_at k t x y (le_of_lt l) T at Y e)) (λ (k : ℕ) (l : k < atan_top) (e : tan_below t k ≡ false). fails_at k t x y l T at e)
    (λ (a : ℕ) (d : ℕ) (h : a + d ≤ 13176794). left_before 0 a (a + d) x y (level a d x y h)) (λ (a : ℕ) (d : ℕ) (h : a + d ≤ 13176794). right_after 0 a (a + d) x y (level a d x y h)) w (atan_steps t) (found t)

-- ---- the greatest argument that is told apart, 2 ^ 23, and all above it

holds_below_top : tan_below (2 ^ 63) 6588396 ≡ true
unfolding tan_below atan_low atan_high sin_plus sin_minus cos_plus cos_minus fixed
holds_below_top = refl

pub last_step : 6588397 ≡ atan_steps (2 ^ 63)
last_step = found_is (2 ^ 63) 6588397 (le_refl (2 ^ 63)) (record { within = le_refl 6588397; holds_before = inr holds_below_top; fails_here = inl refl })

pub far_brackets : (w x y : ℕ) → 2 ^ 23 * y ≤ x → Bracket w x y (atan_steps (2 ^ 63))
far_brackets w x y h = subst (λ (k : ℕ). Bracket w x y k) last_step (record { under = lower; over = upper })
  where
    near : Bracket w (2 ^ 23) 1 6588397
    near = subst (λ (k : ℕ). Bracket w (2 ^ 23) 1 k) (sym last_step) (atan_brackets w (2 ^ 63) (2 ^ 23) 1 (le_refl (2 ^ 63)) (lit≤ tt, lit≤ tt) (lit< tt))

    range : (w : ℕ) → 1 ≤ w → 2 * (6588397 - w) < 13176793
    range w h = omega arith

    past : (w : ℕ) → 1 ≤ w → 6588397 + w ≤ atan_top → ⊥
    past w h l = omega arith

    lower : 1 ≤ w → w ≤ 6588397 → left (2 * (6588397 - w)) x y ≤ right (2 * (6588397 - w)) x y
    lower l m = greater (2 * (6588397 - w)) (2 ^ 23) x y (le_of_lt (cos_positive_half (2 * (6588397 - w)) (range w l))) h (near.under l m)

    upper : 1 ≤ w → 6588397 + w ≤ atan_top → right (2 * (6588397 + w)) x y ≤ left (2 * (6588397 + w)) x y
    upper l m = absurd (past w l m)

-- ---- the recipe's cases
pub atan_number : (x : Float) → is_nan x ≡ false → in_steps (lt x zero32) (atan_steps (atan_units x)) ≡ atan_of x
unfolding atan_of
atan_number x q = rw q

pub atan_nan : (x : Float) → is_nan x ≡ true → nan ≡ atan_of x
unfolding atan_of
atan_nan x q = rw q
