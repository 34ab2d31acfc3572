-- The arcsine's test falls along the grid, so that its answer is the one place where it holds before and fails; the sine series, any number of steps below and above it, has the argument
-- between; and one evaluation is enough to see that a guess is right. Assumes nothing.
use Rattle.std.proofs.Common.{◌≡◌, ℕ, zero, suc, ◌+◌, ◌-◌, ◌*◌, ◌^◌, ◌<◌, ◌≤◌, true, false, sym, refl, ap, ◌∙◌, subst, inl, inr, zero-le, le_trans, le_of_eq, le_refl, lt_of_lt_of_le, lt_of_le_of_lt, add-zero, le_of_lt, add-le-add, mul-le-mul_right, mul_assoc, mul_comm, add-mul, mul-le-mul_left, lt_of_not-le, mul-add, mul_left_comm, arith, lit<, lit≤, leb-false, leb-true}
use native.Mathlib.Nat.{le_of_mul-le-mul_left}
use native.Mathlib.Decide.{dec_le}
use borrow.Author.Tests.{lt-leb}
use lib.Ieee.{Float, nan, lt}
use Rattle.arith.specs.Floats.{scaled}
use Rattle.angles.specs.Series.{sin_up, sin_down, sin_den, sin_plus, sin_minus, sum_of, fixed}
use Rattle.angles.proofs.Near.{plus_near, minus_near, compared}
use Rattle.angles.proofs.Steps.{half_rises, least_half, line_rises, line_unit}
use Rattle.angles.proofs.BracketLaws.{Brackets, brackets}
use Rattle.angles.proofs.LeastLaws.{Found, least_found, least_within, unique, part_falls}
use Rattle.angles.specs.Requires.{Falls, Part, Steep}
use Rattle.angles.specs.Grid.{odd_half, half, in_steps, zero32, one32, within}
use Rattle.angles.proofs.GridLaws.{half_near}
use Rattle.angles.specs.Bound.{AtMost, AtLeast}
use Rattle.angles.specs.Arcsine.{asin_top, asin_low, asin_high, below, asin_steps, asin_of}

-- ---- the evaluation at a half step
half_le : (k : ℕ) → k ≤ asin_top → half k ≤ 2 ^ 63
half_le k h = omega arith

-- on plain numbers: up, down and den are the exact sums and their denominator, p and n the evaluation, x / y the argument and t its whole part times 2 ^ 57
below_arith : (up down den p n x y t s : ℕ) → 0 < s → s * up ≤ (p + 28) * den → n * den ≤ s * down → t * y ≤ s * x → p + 64 ≤ t + n → up * y ≤ down * y + x * den
below_arith up down den p n x y t s S P N X h =
    le_of_mul-le-mul_left {k = s}
    (le_trans (le_of_eq (sym (mul_assoc s up y)))
    (le_trans (mul-le-mul_right y P)
    (le_trans (mul-le-mul_right y (mul-le-mul_right den (shift p t n h)))
    (le_trans (le_of_eq e1)
    (le_trans (add-le-add (mul-le-mul_right y N) (mul-le-mul_right den X))
    (le_of_eq e2))))))
    S
  where
    shift : (p t n : ℕ) → p + 64 ≤ t + n → p + 28 ≤ n + t
    shift p t n h = omega arith

    e1 : (n + t) * den * y ≡ n * den * y + t * y * den
    e1 = simp (add-mul, mul_assoc, mul_comm, mul_left_comm)

    e2 : s * down * y + s * x * den ≡ s * (down * y + x * den)
    e2 = simp (mul-add, mul_assoc, mul_comm, mul_left_comm)

-- where the test fails, the series is below the argument by at most 104 units
not_below_arith : (up down den p n x y t s : ℕ) → p * den ≤ s * up → s * down ≤ (n + 40) * den → s * x ≤ (t + 1) * y → t + n < p + 64 → s * (x * den + down * y) ≤ s * (up * y) + 104 * den * y
not_below_arith up down den p n x y t s P N X h =
    le_trans (le_of_eq e1)
    (le_trans (add-le-add (mul-le-mul_right den X) (mul-le-mul_right y N))
    (le_trans (le_of_eq e2)
    (le_trans (mul-le-mul_right y (mul-le-mul_right den (shift p t n h)))
    (le_trans (le_of_eq e3)
    (le_trans (add-le-add (mul-le-mul_right y P) (le_refl (104 * den * y)))
    (le_of_eq (ap (λ (w : ℕ). w + 104 * den * y) (mul_assoc s up y))))))))
  where
    shift : (p t n : ℕ) → t + n < p + 64 → (t + 1) + (n + 40) ≤ p + 104
    shift p t n h = omega arith

    e1 : s * (x * den + down * y) ≡ s * x * den + s * down * y
    e1 = simp (mul-add, mul_assoc, mul_comm, mul_left_comm)

    e2 : (t + 1) * y * den + (n + 40) * den * y ≡ ((t + 1) + (n + 40)) * den * y
    e2 = simp (add-mul, mul_assoc, mul_comm, mul_left_comm)

    e3 : (p + 104) * den * y ≡ p * den * y + 104 * den * y
    e3 = simp (add-mul, mul_assoc, mul_comm, mul_left_comm)

-- the next step is above the argument: it is higher by r, and r outweighs the 104 units
rise_arith : (up up' down down' den x y s r : ℕ) → 0 < s → s * (x * den + down * y) ≤ s * (up * y) + 104 * den * y → 104 * den ≤ s * r → up + down' + r ≤ up' + down → x * den + down' * y ≤ up' * y
rise_arith up up' down down' den x y s r S H R I =
    cancel (x * den) (down' * y) (up' * y) (down * y) (up * y) (r * y)
    (le_of_mul-le-mul_left {k = s} (le_trans H (le_trans (add-le-add (le_refl (s * (up * y))) (le_trans (mul-le-mul_right y R) (le_of_eq (mul_assoc s r y)))) (le_of_eq (sym (mul-add s (up * y) (r * y)))))) S)
    (le_trans (le_of_eq e1) (le_trans (mul-le-mul_right y I) (le_of_eq (add-mul up' down y))))
  where
    cancel : (a d' u' d u r : ℕ) → a + d ≤ u + r → u + d' + r ≤ u' + d → a + d' ≤ u'
    cancel a d' u' d u r h k = omega arith

    e1 : up * y + down' * y + r * y ≡ (up + down' + r) * y
    e1 = simp add-mul

-- one half step outweighs 104 units
outweighs : 104 * sin_den (2 ^ 23) ≤ 2 ^ 57 * (25 * least_half)
unfolding sin_den
outweighs = lit≤ tt

outweighs_68 : (68 + 0) * sin_den (2 ^ 23) ≤ 2 ^ 57 * (25 * least_half)
unfolding sin_den
outweighs_68 = lit≤ tt

den_pos : 0 < sin_den (2 ^ 23)
unfolding sin_den
den_pos = lit< tt

-- ---- the series rises, any number of half steps
two_rises : (u d u1 d1 u2 d2 : ℕ) → u + d1 ≤ u1 + d → u1 + d2 ≤ u2 + d1 → u + d2 ≤ u2 + d
two_rises u d u1 d1 u2 d2 h k = omega arith

top_half : sin_up 13176793 (2 ^ 23) + sin_down 13176794 (2 ^ 23) + 25 * least_half ≤ sin_up 13176794 (2 ^ 23) + sin_down 13176793 (2 ^ 23)
unfolding sin_up sin_down sum_of
top_half = lit≤ tt

rise_half : (a : ℕ) → a < 13176794 → sin_up a (2 ^ 23) + sin_down (a + 1) (2 ^ 23) + 25 * least_half ≤ sin_up (a + 1) (2 ^ 23) + sin_down a (2 ^ 23)
rise_half a h = go (dec_le 13176793 a)
  where
    is_top : (a : ℕ) → a < 13176794 → 13176793 ≤ a → 13176793 ≡ a
    is_top a h k = omega arith

    go : Dec (13176793 ≤ a) → sin_up a (2 ^ 23) + sin_down (a + 1) (2 ^ 23) + 25 * least_half ≤ sin_up (a + 1) (2 ^ 23) + sin_down a (2 ^ 23)
    go (yes k) = subst (λ (z : ℕ). sin_up z (2 ^ 23) + sin_down (z + 1) (2 ^ 23) + 25 * least_half ≤ sin_up (z + 1) (2 ^ 23) + sin_down z (2 ^ 23)) (is_top a h k) top_half
    go (no f) = half_rises a (lt_of_not-le f)

one_half : (a : ℕ) → a < 13176794 → sin_up a (2 ^ 23) + sin_down (a + 1) (2 ^ 23) ≤ sin_up (a + 1) (2 ^ 23) + sin_down a (2 ^ 23)
one_half a h = drop_r (sin_up a (2 ^ 23)) (sin_down (a + 1) (2 ^ 23)) (25 * least_half) (sin_up (a + 1) (2 ^ 23) + sin_down a (2 ^ 23)) (rise_half a h)
  where
    drop_r : (u d r v : ℕ) → u + d + r ≤ v → u + d ≤ v
    drop_r u d r v h = omega arith

rises_step : (d a : ℕ) → a + suc d ≤ 13176794 → sin_up a (2 ^ 23) + sin_down (a + d) (2 ^ 23) ≤ sin_up (a + d) (2 ^ 23) + sin_down a (2 ^ 23) → sin_up a (2 ^ 23) + sin_down (a + suc d) (2 ^ 23) ≤ sin_up (a + suc d) (2 ^ 23) + sin_down a (2 ^ 23)
rises_step d a h k =
    let e : a + d + 1 ≡ a + suc d = omega arith in
    let l : a + d < 13176794 = omega arith in
    subst (λ (z : ℕ). sin_up a (2 ^ 23) + sin_down z (2 ^ 23) ≤ sin_up z (2 ^ 23) + sin_down a (2 ^ 23)) e
    (two_rises (sin_up a (2 ^ 23)) (sin_down a (2 ^ 23)) (sin_up (a + d) (2 ^ 23)) (sin_down (a + d) (2 ^ 23)) (sin_up (a + d + 1) (2 ^ 23)) (sin_down (a + d + 1) (2 ^ 23)) k (one_half (a + d) l))

pub rises : (d a : ℕ) → a + d ≤ 13176794 → sin_up a (2 ^ 23) + sin_down (a + d) (2 ^ 23) ≤ sin_up (a + d) (2 ^ 23) + sin_down a (2 ^ 23)
rises zero a h = le_of_eq (ap (λ (z : ℕ). sin_up a (2 ^ 23) + sin_down z (2 ^ 23)) (add-zero a) ∙ ap (λ (z : ℕ). sin_up z (2 ^ 23) + sin_down a (2 ^ 23)) (sym (add-zero a)))
rises (suc d) a h = rises_step d a h (rises d a (less a d h))
  where
    less : (a d : ℕ) → a + suc d ≤ 13176794 → a + d ≤ 13176794
    less a d h = omega arith

-- the sine series is not below 0 up to the quarter turn
at_zero : sin_down 0 (2 ^ 23) ≤ sin_up 0 (2 ^ 23)
unfolding sin_up sin_down sum_of
at_zero = lit≤ tt

pub not_below_0 : (a : ℕ) → a ≤ 13176794 → sin_down a (2 ^ 23) ≤ sin_up a (2 ^ 23)
not_below_0 a h = strip (sin_up 0 (2 ^ 23)) (sin_down 0 (2 ^ 23)) (sin_up a (2 ^ 23)) (sin_down a (2 ^ 23)) at_zero (subst (λ (z : ℕ). sin_up 0 (2 ^ 23) + sin_down z (2 ^ 23) ≤ sin_up z (2 ^ 23) + sin_down 0 (2 ^ 23)) (zero_plus a) (rises a 0 (subst (λ (z : ℕ). z ≤ 13176794) (sym (zero_plus a)) h)))
  where
    zero_plus : (z : ℕ) → 0 + z ≡ z
    zero_plus z = omega arith

    strip : (u0 d0 u d : ℕ) → d0 ≤ u0 → u0 + d ≤ u + d0 → d ≤ u
    strip u0 d0 u d h k = omega arith

-- ---- the test holds before wherever it holds

-- at k and the next half step but one: 68 is what is lost
evaluated : (k q r : ℕ) → k < 6588397 → (68 + q) * sin_den (2 ^ 23) ≤ 2 ^ 57 * r → sin_up (odd_half k) (2 ^ 23) + sin_down (odd_half (k + 1)) (2 ^ 23) + r ≤ sin_up (odd_half (k + 1)) (2 ^ 23) + sin_down (odd_half k) (2 ^ 23) → sin_plus (half k) + sin_minus (half (k + 1)) + q ≤ sin_plus (half (k + 1)) + sin_minus (half k)
evaluated k q r h R I =
    let b = 2 ^ 23 in
    let j = k + 1 in
    let lk : k ≤ 6588397 = omega arith in
    let lj : j ≤ 6588397 = omega arith in
    let pk = plus_near (odd_half k) b (half k) (lit< tt) (half_le k lk) (half_near k) in
    let nk = minus_near (odd_half k) b (half k) (lit< tt) (half_le k lk) (half_near k) in
    let pj = plus_near (odd_half j) b (half j) (lit< tt) (half_le j lj) (half_near j) in
    let nj = minus_near (odd_half j) b (half j) (lit< tt) (half_le j lj) (half_near j) in
    compared (sin_up (odd_half k) b) (sin_down (odd_half j) b) (sin_up (odd_half j) b) (sin_down (odd_half k) b) (sin_den b) (sin_plus (half k)) (sin_minus (half j)) (sin_plus (half j)) (sin_minus (half k)) 28 40 (2 ^ 57) r q den_pos
    pk.0 nj.0 pj.1 nk.1 R I

rise_two : (k : ℕ) → k < 6588396 → sin_up (odd_half k) (2 ^ 23) + sin_down (odd_half (k + 1)) (2 ^ 23) + 25 * least_half ≤ sin_up (odd_half (k + 1)) (2 ^ 23) + sin_down (odd_half k) (2 ^ 23)
rise_two k h =
    let a = odd_half k in
    let l : a < 13176793 = omega arith in
    let l' : a + 1 < 13176794 = omega arith in
    let e : a + 1 + 1 ≡ odd_half (k + 1) = omega arith in
    subst (λ (z : ℕ). sin_up a (2 ^ 23) + sin_down z (2 ^ 23) + 25 * least_half ≤ sin_up z (2 ^ 23) + sin_down a (2 ^ 23)) e
    (sum_up (sin_up a (2 ^ 23)) (sin_down a (2 ^ 23)) (sin_up (a + 1) (2 ^ 23)) (sin_down (a + 1) (2 ^ 23)) (sin_up (a + 1 + 1) (2 ^ 23)) (sin_down (a + 1 + 1) (2 ^ 23)) (25 * least_half) (half_rises a l) (one_half (a + 1) l'))
  where
    sum_up : (u d u1 d1 u2 d2 r : ℕ) → u + d1 + r ≤ u1 + d → u1 + d2 ≤ u2 + d1 → u + d2 + r ≤ u2 + d
    sum_up u d u1 d1 u2 d2 r h k = omega arith

-- the sides part as the evaluations do
sides : (k q t : ℕ) → sin_plus (half k) + sin_minus (half (k + 1)) + q ≤ sin_plus (half (k + 1)) + sin_minus (half k) → Part asin_low (asin_high t) q k
sides k q t h = shift (sin_plus (half k)) (sin_plus (half (k + 1))) (sin_minus (half k)) (sin_minus (half (k + 1))) t q h
  where
    shift : (p p' n n' t q : ℕ) → p + n' + q ≤ p' + n → p + 64 + (t + n') + q ≤ p' + 64 + (t + n)
    shift p p' n n' t q h = omega arith

-- so the test falls
pub asin_falls : (t : ℕ) → Falls (below t) asin_top
unfolding below
asin_falls t = part_falls asin_low (asin_high t) asin_top parts
  where
    parts : (k : ℕ) → k + 1 < asin_top → Part asin_low (asin_high t) 0 k
    parts k h =
        let l : k < 6588397 = omega arith in
        let l' : k < 6588396 = omega arith in
        sides k 0 t (evaluated k 0 (25 * least_half) l outweighs_68 (rise_two k l'))

asin_found : (t : ℕ) → Found (below t) asin_top (asin_steps t)
unfolding asin_steps
asin_found t = least_found (below t) asin_top

-- ---- and that has the argument x / y between the series w steps below and w steps above, for every w

-- the sine series at a half steps is at most, at least, the argument
abbrev Below : ℕ → ℕ → ℕ → Type 0
Below x y a = AtMost (sin_up a (2 ^ 23)) (sin_down a (2 ^ 23)) (sin_den (2 ^ 23)) false x y

abbrev Above : ℕ → ℕ → ℕ → Type 0
Above x y a = AtLeast (sin_up a (2 ^ 23)) (sin_down a (2 ^ 23)) (sin_den (2 ^ 23)) false x y

abbrev pub Bracket : (w x y k : ℕ) → Type 0
Bracket w x y k = Brackets (Below x y) (Above x y) asin_top w k

lower_still : (u d u' d' z y : ℕ) → u + d' ≤ u' + d → u' * y ≤ d' * y + z → u * y ≤ d * y + z
lower_still u d u' d' z y h k =
    let a : u * y + d' * y ≤ u' * y + d * y = le_trans (le_of_eq (sym (add-mul u d' y))) (le_trans (mul-le-mul_right y h) (le_of_eq (add-mul u' d y))) in
    cancel (u * y) (d' * y) (u' * y) (d * y) z a k
  where
    cancel : (a b c d z : ℕ) → a + b ≤ c + d → c ≤ b + z → a ≤ d + z
    cancel a b c d z h k = omega arith

higher_still : (u d u' d' z y : ℕ) → u + d' ≤ u' + d → z + d * y ≤ u * y → z + d' * y ≤ u' * y
higher_still u d u' d' z y h k =
    let a : u * y + d' * y ≤ u' * y + d * y = le_trans (le_of_eq (sym (add-mul u d' y))) (le_trans (mul-le-mul_right y h) (le_of_eq (add-mul u' d y))) in
    cancel (u * y) (d' * y) (u' * y) (d * y) z a k
  where
    cancel : (a b c d z : ℕ) → a + b ≤ c + d → z + d ≤ a → z + b ≤ c
    cancel a b c d z h k = omega arith

under_at : (t x y j : ℕ) → j ≤ 6588397 → below t j ≡ true → t * y ≤ 2 ^ 57 * x → sin_up (odd_half j) (2 ^ 23) * y ≤ sin_down (odd_half j) (2 ^ 23) * y + x * sin_den (2 ^ 23)
unfolding below
under_at t x y j l f X0 =
    let b = 2 ^ 23 in
    let pj = plus_near (odd_half j) b (half j) (lit< tt) (half_le j l) (half_near j) in
    let nj = minus_near (odd_half j) b (half j) (lit< tt) (half_le j l) (half_near j) in
    below_arith (sin_up (odd_half j) b) (sin_down (odd_half j) b) (sin_den b) (sin_plus (half j)) (sin_minus (half j)) x y t (2 ^ 57) (lit< tt) pj.1 nj.0 X0 (leb-true (sin_plus (half j) + 64) (t + sin_minus (half j)) f)

over_at : (t x y k : ℕ) → k < 6588397 → below t k ≡ false → 2 ^ 57 * x ≤ (t + 1) * y → x * sin_den (2 ^ 23) + sin_down (odd_half k + 1) (2 ^ 23) * y ≤ sin_up (odd_half k + 1) (2 ^ 23) * y
unfolding below
over_at t x y k l f X1 =
    let b = 2 ^ 23 in
    let a = odd_half k in
    let lk : k ≤ 6588397 = omega arith in
    let la : a < 13176794 = omega arith in
    let pk = plus_near a b (half k) (lit< tt) (half_le k lk) (half_near k) in
    let nk = minus_near a b (half k) (lit< tt) (half_le k lk) (half_near k) in
    rise_arith (sin_up a b) (sin_up (a + 1) b) (sin_down a b) (sin_down (a + 1) b) (sin_den b) x y (2 ^ 57) (25 * least_half) (lit< tt)
    (not_below_arith (sin_up a b) (sin_down a b) (sin_den b) (sin_plus (half k)) (sin_minus (half k)) x y t (2 ^ 57) pk.0 nk.1 X1 (leb-false (sin_plus (half k) + 64) (t + sin_minus (half k)) f))
    outweighs (rise_half a la)

-- the recipe meets its bound, at every argument from 0 to 1 and any width
pub asin_brackets : (w t x y : ℕ) → t * y ≤ 2 ^ 57 * x → 2 ^ 57 * x ≤ (t + 1) * y → Bracket w x y (asin_steps t)
asin_brackets w t x y X0 X1 =
    brackets (below t) asin_top (Below x y) (Above x y) (λ (k : ℕ) (l : k < asin_top) (e : below t k ≡ true). under_at t x y k (le_of_lt l) e X0) (λ (k : ℕ) (l : k < asin_top) (e : below t k ≡ false). over_at t x y k l e X1) lower higher w (asin_steps t) (asin_found t)
  where
    b : ℕ
    b = 2 ^ 23

    lower : (a d : ℕ) → a + d ≤ 13176794 → Below x y (a + d) → Below x y a
    lower a d h = lower_still (sin_up a b) (sin_down a b) (sin_up (a + d) b) (sin_down (a + d) b) (x * sin_den b) y (rises d a h)

    higher : (a d : ℕ) → a + d ≤ 13176794 → Above x y a → Above x y (a + d)
    higher a d h = higher_still (sin_up a b) (sin_down a b) (sin_up (a + d) b) (sin_down (a + d) b) (x * sin_den b) y (rises d a h)

pub asin_steps_below : (t : ℕ) → asin_steps t ≤ 6588397
unfolding asin_steps
asin_steps_below t = least_within (below t) asin_top

-- ---- one evaluation is enough, where it is not too far off

-- what a step changes at the least, in units, less 68
abbrev pub slack : ℕ → ℕ
slack k = 5120 * (6588394 - k)

line_two : (k : ℕ) → k ≤ 6586998 → sin_up (odd_half k) (2 ^ 23) + sin_down (odd_half (k + 1)) (2 ^ 23) + 25 * (line_unit * (4 * (6588396 - k))) ≤ sin_up (odd_half (k + 1)) (2 ^ 23) + sin_down (odd_half k) (2 ^ 23)
line_two k h =
    let a = odd_half k in
    let l : a < 13174000 = omega arith in
    let l' : a + 1 < 13174000 = omega arith in
    let e : a + 1 + 1 ≡ odd_half (k + 1) = omega arith in
    let m : 4 * (6588396 - k) ≤ (13176794 - a) + (13176794 - (a + 1)) = omega arith in
    subst (λ (z : ℕ). sin_up a (2 ^ 23) + sin_down z (2 ^ 23) + 25 * (line_unit * (4 * (6588396 - k))) ≤ sin_up z (2 ^ 23) + sin_down a (2 ^ 23)) e
    (sum_up (sin_up a (2 ^ 23)) (sin_down a (2 ^ 23)) (sin_up (a + 1) (2 ^ 23)) (sin_down (a + 1) (2 ^ 23)) (sin_up (a + 1 + 1) (2 ^ 23)) (sin_down (a + 1 + 1) (2 ^ 23)) (line_unit * (13176794 - a)) (line_unit * (13176794 - (a + 1))) (line_unit * (4 * (6588396 - k))) (line_rises a l) (line_rises (a + 1) l')
    (le_trans (mul-le-mul_left line_unit m) (le_of_eq (mul-add line_unit (13176794 - a) (13176794 - (a + 1))))))
  where
    sum_up : (u d u1 d1 u2 d2 r s v : ℕ) → u + d1 + 25 * r ≤ u1 + d → u1 + d2 + 25 * s ≤ u2 + d1 → v ≤ r + s → u + d2 + 25 * v ≤ u2 + d
    sum_up u d u1 d1 u2 d2 r s v h k l = omega arith

units_of : 1280 * sin_den (2 ^ 23) ≡ 2 ^ 57 * (25 * line_unit)
unfolding sin_den
units_of = refl

slack_fits : (k : ℕ) → k ≤ 6586998 → (68 + slack k) * sin_den (2 ^ 23) ≤ 2 ^ 57 * (25 * (line_unit * (4 * (6588396 - k))))
slack_fits k h = scale (68 + slack k) (sin_den (2 ^ 23)) (2 ^ 57) line_unit (4 * (6588396 - k)) units_of (more k h)
  where
    more : (k : ℕ) → k ≤ 6586998 → 68 + slack k ≤ 1280 * (4 * (6588396 - k))
    more k h = omega arith

    scale : (c d s u m : ℕ) → 1280 * d ≡ s * (25 * u) → c ≤ 1280 * m → c * d ≤ s * (25 * (u * m))
    scale c d s u m e h =
        let a : 1280 * m * d ≡ 1280 * d * m = simp (mul_assoc, mul_comm, mul_left_comm) in
        let b : s * (25 * u) * m ≡ s * (25 * (u * m)) = simp mul_assoc in
        le_trans (mul-le-mul_right d h) (le_of_eq (a ∙ ap (λ (w : ℕ). w * m) e ∙ b))

pub asin_steep : (t j : ℕ) → j ≤ 6586998 → Steep asin_low (asin_high t) asin_top (slack j) j
asin_steep t j l = inr (top j l, (inr (weaker (j - 1) (slack (j - 1)) (slack j) (more j) (part (j - 1) (less j l))), part j l))
  where
    top : (j : ℕ) → j ≤ 6586998 → j + 1 ≤ 6588397
    top j l = omega arith

    less : (j : ℕ) → j ≤ 6586998 → j - 1 ≤ 6586998
    less j l = omega arith

    more : (j : ℕ) → slack j ≤ slack (j - 1)
    more j = omega arith

    within : (k : ℕ) → k ≤ 6586998 → k < 6588397
    within k l = omega arith

    part : (k : ℕ) → k ≤ 6586998 → Part asin_low (asin_high t) (slack k) k
    part k l = sides k (slack k) t (evaluated k (slack k) (25 * (line_unit * (4 * (6588396 - k)))) (within k l) (slack_fits k l) (line_two k l))

    weaker : (k q r : ℕ) → r ≤ q → Part asin_low (asin_high t) q k → Part asin_low (asin_high t) r k
    weaker k q r m p = le_trans (add-le-add (le_refl (asin_low k + asin_high t (k + 1))) m) p

-- a tiny argument: the test fails at the first half step
tiny_at : (t : ℕ) → t < 2 ^ 34 → t + sin_minus (half 0) < sin_plus (half 0) + 64
unfolding sin_plus sin_minus fixed
tiny_at t h = lt_of_lt_of_le (lt_of_le_of_lt (le_of_eq (add-zero t)) h) (lit≤ tt)

pub tiny : (t : ℕ) → t < 2 ^ 34 → 0 ≡ asin_steps t
unfolding below asin_steps
tiny t h = unique (below t) asin_top (asin_falls t) 0 (record { within = zero-le; holds_before = inl refl; fails_here = inr (lt-leb (asin_low 0) (asin_high t 0) (tiny_at t h)) })

-- ---- on f32
pub asin_inside : (x : Float) → within one32 x ≡ true → in_steps (lt x zero32) (asin_steps (scaled 57 x)) ≡ asin_of x
unfolding asin_of
asin_inside x e = rw e

pub asin_outside : (x : Float) → within one32 x ≡ false → nan ≡ asin_of x
unfolding asin_of
asin_outside x e = rw e
