-- One evaluation of the arctangent's test is enough to see that a guess is the recipe's, where it is not too far off. Assumes nothing.
use Rattle.std.proofs.Common.{◌≡◌, ℕ, ◌+◌, ◌-◌, ◌*◌, ◌/◌, ◌^◌, ◌<◌, ◌≤◌, refl, ap, ◌∙◌, subst, inl, inr, zero-le, le_trans, le_of_eq, le_refl, lt_of_le_of_lt, add-le-add, mul-le-mul_right, mul_assoc, mul_comm, add-mul, mul-le-mul_left, mul-add, div-mul-le_self, le_of_mul-le-mul_right, mul_left_comm, arith, lit<, lit≤}
use native.Mathlib.Decide.{dec_le}
use borrow.Author.Tests.{lt-leb}
use Rattle.angles.specs.Series.{mh, sum_of, fixed, square, power, sin_up, sin_down, sin_den, sin_plus, sin_minus, cos_plus, cos_minus, cos_den}
use Rattle.angles.proofs.Near.{mh_under}
use Rattle.angles.proofs.Steps.{line_unit, line_rises, fall_unit, line_drops}
use Rattle.angles.specs.Grid.{odd_half, half}
use Rattle.angles.proofs.ArcsineLaws.{rises}
use Rattle.angles.proofs.ArccosineLaws.{Falls-by, two_falls}
use Rattle.angles.specs.Requires.{Part, Steep}
use Rattle.angles.specs.Arctangent.{atan_low, atan_high, tan_below, atan_top, atan_steps}
use Rattle.angles.proofs.TangentClimbs.{climbs}
use Rattle.angles.proofs.ArctangentNear.{sine_side}
use Rattle.angles.proofs.ArctangentLaws.{evaluated, found_is}

-- ---- from one step to the next, the sine rises and the cosine falls by a line

last_two : sin_up 13176793 (2 ^ 23) + sin_down 13176795 (2 ^ 23) ≤ sin_up 13176795 (2 ^ 23) + sin_down 13176793 (2 ^ 23)
unfolding sin_up sin_down sum_of
last_two = lit≤ tt

-- the steps ahead for which there is a line: none from 6586998 on
abbrev ahead : ℕ → ℕ
ahead k = 6586998 - k

sine_two : (k : ℕ) → k < atan_top → sin_up (odd_half k) (2 ^ 23) + sin_down (odd_half (k + 1)) (2 ^ 23) + 25 * line_unit * (4 * ahead k) ≤ sin_up (odd_half (k + 1)) (2 ^ 23) + sin_down (odd_half k) (2 ^ 23)
sine_two k h = go (dec_le 6586998 k) (dec_le 6588396 k)
  where
    b : ℕ
    b = 2 ^ 23

    a : ℕ
    a = odd_half k

    Rises : ℕ → Type 0
    Rises z = sin_up a (2 ^ 23) + sin_down z (2 ^ 23) + 25 * line_unit * (4 * ahead k) ≤ sin_up z (2 ^ 23) + sin_down a (2 ^ 23)

    none : (k u v w : ℕ) → 6586998 ≤ k → u + v ≤ w → u + v + 25 * line_unit * (4 * ahead k) ≤ w
    none k u v w l m =
        let z : 4 * ahead k ≡ 0 = omega arith in
        rw z (le_trans (le_of_eq (nothing (25 * line_unit) (u + v))) m)
      where
        nothing : (g s : ℕ) → s + g * 0 ≡ s
        nothing g s = omega arith

    two : (k : ℕ) → odd_half k + 2 ≡ odd_half (k + 1)
    two k = omega arith

    room : (k : ℕ) → (6588396 ≤ k → ⊥) → odd_half k + 2 ≤ 13176794
    room k f = omega arith

    end : (k : ℕ) → k < atan_top → 6588396 ≤ k → 6588396 ≡ k
    end k h l = omega arith

    one_on : (k : ℕ) → (6586998 ≤ k → ⊥) → odd_half k < 13174000
    one_on k f = omega arith

    two_on : (k : ℕ) → (6586998 ≤ k → ⊥) → odd_half k + 1 < 13174000
    two_on k f = omega arith

    again : (k : ℕ) → odd_half k + 1 + 1 ≡ odd_half (k + 1)
    again k = omega arith

    most : (k : ℕ) → (6586998 ≤ k → ⊥) → 4 * ahead k ≤ (13176794 - odd_half k) + (13176794 - (odd_half k + 1))
    most k f = omega arith

    sum_up : (u d u1 d1 u2 d2 r s v : ℕ) → u + d1 + 25 * r ≤ u1 + d → u1 + d2 + 25 * s ≤ u2 + d1 → v ≤ 25 * (r + s) → u + d2 + v ≤ u2 + d
    sum_up u d u1 d1 u2 d2 r s v h k l = omega arith

    go : Dec (6586998 ≤ k) → Dec (6588396 ≤ k) → Rises (odd_half (k + 1))
    go (yes l) (yes m) = none k (sin_up a (2 ^ 23)) (sin_down (odd_half (k + 1)) (2 ^ 23)) (sin_up (odd_half (k + 1)) (2 ^ 23) + sin_down a (2 ^ 23)) l (subst (λ (z : ℕ). sin_up (odd_half z) (2 ^ 23) + sin_down (odd_half (z + 1)) (2 ^ 23) ≤ sin_up (odd_half (z + 1)) (2 ^ 23) + sin_down (odd_half z) (2 ^ 23)) (end k h m) last_two)
    go (yes l) (no f) = none k (sin_up a (2 ^ 23)) (sin_down (odd_half (k + 1)) (2 ^ 23)) (sin_up (odd_half (k + 1)) (2 ^ 23) + sin_down a (2 ^ 23)) l (subst (λ (z : ℕ). sin_up a (2 ^ 23) + sin_down z (2 ^ 23) ≤ sin_up z (2 ^ 23) + sin_down a (2 ^ 23)) (two k) (rises 2 a (room k f)))
    go (no f) d =
        subst Rises (again k)
        (sum_up (sin_up a b) (sin_down a b) (sin_up (a + 1) b) (sin_down (a + 1) b) (sin_up (a + 1 + 1) b) (sin_down (a + 1 + 1) b) (line_unit * (13176794 - a)) (line_unit * (13176794 - (a + 1))) (25 * line_unit * (4 * ahead k))
        (line_rises a (one_on k f)) (line_rises (a + 1) (two_on k f))
        (le_trans (mul-le-mul_left (25 * line_unit) (most k f)) (le_of_eq (spread 25 line_unit (13176794 - a) (13176794 - (a + 1))))))
      where
        spread : (c g m n : ℕ) → c * g * (m + n) ≡ c * (g * m + g * n)
        spread c g m n = simp (mul-add, mul_assoc)

cosine_two : (k : ℕ) → k < atan_top → Falls-by (odd_half k) (odd_half (k + 1)) (fall_unit * (4 * k))
cosine_two k h =
    let a = odd_half k in
    two_falls k (fall_unit * a) (fall_unit * (a + 1)) (fall_unit * (4 * k)) (line_drops a (low k) (high k h)) (line_drops (a + 1) (low_on k) (high_on k h)) (le_trans (mul-le-mul_left fall_unit (most k)) (le_of_eq (mul-add fall_unit a (a + 1))))
  where
    low : (k : ℕ) → 1 ≤ odd_half k
    low k = omega arith

    low_on : (k : ℕ) → 1 ≤ odd_half k + 1
    low_on k = omega arith

    high : (k : ℕ) → k < atan_top → odd_half k < 13178000
    high k h = omega arith

    high_on : (k : ℕ) → k < atan_top → odd_half k + 1 < 13178000
    high_on k h = omega arith

    most : (k : ℕ) → 4 * k ≤ odd_half k + (odd_half k + 1)
    most k = omega arith

-- ---- so many units

sine_units : 1280 * sin_den (2 ^ 23) ≡ 2 ^ 33 * 2 ^ 24 * (25 * line_unit)
unfolding sin_den
sine_units = refl

cosine_units : 1280 * cos_den (2 ^ 23) ≡ 2 ^ 33 * 2 ^ 24 * fall_unit
cosine_units = refl

worth : (q e d y x m n g f s p c : ℕ) → 0 < p → c * e ≡ s * p * g → c * d ≡ s * p * f → q * p * y ≤ c * (m * y + n * x) → q * (e * (d * y)) ≤ s * (g * m * (d * y) + f * n * (e * x))
worth q e d y x m n g f s p c P E D h =
    le_of_mul-le-mul_right {k = p}
    (le_trans (le_of_eq e1) (le_trans (mul-le-mul_right (e * d) h) (le_of_eq (e2 ∙ ap (λ (w : ℕ). w * (m * (d * y)) + c * d * (n * (e * x))) E ∙ ap (λ (w : ℕ). s * p * g * (m * (d * y)) + w * (n * (e * x))) D ∙ e3))))
    P
  where
    e1 : q * (e * (d * y)) * p ≡ q * p * y * (e * d)
    e1 = simp (mul_assoc, mul_comm, mul_left_comm)

    e2 : c * (m * y + n * x) * (e * d) ≡ c * e * (m * (d * y)) + c * d * (n * (e * x))
    e2 = simp (mul-add, add-mul, mul_assoc, mul_comm, mul_left_comm)

    e3 : s * p * g * (m * (d * y)) + s * p * f * (n * (e * x)) ≡ s * (g * m * (d * y) + f * n * (e * x)) * p
    e3 = simp (mul-add, add-mul, mul_assoc, mul_comm, mul_left_comm)

-- what a step changes at the least, at j and before, in units, less what two evaluations can have lost
abbrev reach : ℕ → ℕ → ℕ
reach t j = 5120 * (ahead j + mh t ((j - 1) * 2 ^ 24)) / 2 ^ 24

abbrev pub slack : ℕ → ℕ → ℕ
slack t j = reach t j - 64

enough : (t j k : ℕ) → j - 1 ≤ k → k ≤ j → 64 ≤ reach t j → (42 + slack t j) * 2 ^ 24 * 2 ^ 40 ≤ 1280 * (4 * ahead k * 2 ^ 40 + 4 * k * t)
enough t j k l m r =
    sums (ahead j) (ahead k) (mh t ((j - 1) * 2 ^ 24)) (k * t) (4 * k * t) (fewer j k m) (mul_assoc 4 k t)
    (le_trans (whole (mh t ((j - 1) * 2 ^ 24)) (j - 1) t (div-mul-le_self (t * ((j - 1) * 2 ^ 24)) (2 ^ 64))) (mul-le-mul_right t l)) r
  where
    fewer : (j k : ℕ) → k ≤ j → ahead j ≤ ahead k
    fewer j k h = omega arith

    whole : (g i t : ℕ) → g * 2 ^ 64 ≤ t * (i * 2 ^ 24) → g * 2 ^ 40 ≤ i * t
    whole g i t h =
        let e : t * (i * 2 ^ 24) ≡ i * t * 2 ^ 24 = moved t i (2 ^ 24) in
        omega (arith, e, h)
      where
        moved : (t i p : ℕ) → t * (i * p) ≡ i * t * p
        moved t i p = simp (mul_assoc, mul_comm, mul_left_comm)

    sums : (f f' g p p' : ℕ) → f ≤ f' → p' ≡ 4 * p → g * 2 ^ 40 ≤ p → 64 ≤ 5120 * (f + g) / 2 ^ 24 → (42 + (5120 * (f + g) / 2 ^ 24 - 64)) * 2 ^ 24 * 2 ^ 40 ≤ 1280 * (4 * f' * 2 ^ 40 + p')
    sums f f' g p p' h e k l = omega arith

parts : (t j k : ℕ) → t ≤ 2 ^ 63 → k < atan_top → j - 1 ≤ k → k ≤ j → 64 ≤ reach t j → Part (atan_low t) (atan_high t) (slack t j) k
unfolding atan_low sine_side
parts t j k T h l m r =
    shift (sine_side t k) (sine_side t (k + 1)) (atan_high t k) (atan_high t (k + 1)) (slack t j)
    (evaluated k t (slack t j) h T
    (climbs (42 + slack t j) (odd_half k) (odd_half (k + 1)) t (2 ^ 40) (25 * line_unit * (4 * ahead k)) (fall_unit * (4 * k))
    (worth (42 + slack t j) (sin_den (2 ^ 23)) (cos_den (2 ^ 23)) (2 ^ 40) t (4 * ahead k) (4 * k) (25 * line_unit) fall_unit (2 ^ 33) (2 ^ 24) 1280 (lit< tt) sine_units cosine_units (enough t j k l m r))
    (sine_two k h) (cosine_two k h)))
  where
    shift : (p p' n n' q : ℕ) → p + n' + q ≤ p' + n → p + 16 + n' + q ≤ p' + 16 + n
    shift p p' n n' q h = omega arith

pub steep : (t j : ℕ) → t ≤ 2 ^ 63 → j + 1 ≤ atan_top → Steep (atan_low t) (atan_high t) atan_top (slack t j) j
steep t j T l = go (dec_le 64 (reach t j))
  where
    none : (r : ℕ) → (64 ≤ r → ⊥) → r - 64 ≡ 0
    none r f = omega arith

    before : (j : ℕ) → j + 1 ≤ atan_top → j - 1 < atan_top
    before j l = omega arith

    here : (j : ℕ) → j + 1 ≤ atan_top → j < atan_top
    here j l = omega arith

    pred_le : (j : ℕ) → j - 1 ≤ j
    pred_le j = omega arith

    go : Dec (64 ≤ reach t j) → Steep (atan_low t) (atan_high t) atan_top (slack t j) j
    go (yes r) = inr (l, (inr (parts t j (j - 1) T (before j l) (le_refl (j - 1)) (pred_le j) r), parts t j j T (here j l) (pred_le j) (le_refl j) r))
    go (no f) = inl (none (reach t j) f)

-- ---- a tiny argument: the test fails at the first half step

tiny_at : (t : ℕ) → t ≤ 2 ^ 17 → atan_high t 0 < atan_low t 0
unfolding atan_low atan_high sin_plus sin_minus cos_plus fixed
tiny_at t h =
    lt_of_le_of_lt (add-le-add (mh_under t (cos_plus (power (half 0))) (2 ^ 17) (2 ^ 57) (2 ^ 10) h (lit≤ tt) (lit≤ tt)) (le_refl (sin_minus (half 0) / 2 ^ 24)))
    (more (mh t (cos_minus (square (half 0)) (power (half 0)))))
  where
    more : (z : ℕ) → 2 ^ 10 + sin_minus (half 0) / 2 ^ 24 < sin_plus (half 0) / 2 ^ 24 + z + 16
    more z = omega arith

pub atan_tiny : (t : ℕ) → t ≤ 2 ^ 17 → 0 ≡ atan_steps t
unfolding tan_below
atan_tiny t h = found_is t 0 (le_trans h (lit≤ tt)) (record { within = zero-le; holds_before = inl refl; fails_here = inr (lt-leb (atan_low t 0) (atan_high t 0) (tiny_at t h)) })
