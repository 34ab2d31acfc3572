-- The arccosine's test, for either sign of the argument, falls along the grid, so that its answer is the one place where it holds before and fails; the cosine series, any number of steps
-- below and above it, has the argument between; and one evaluation is enough to see that a guess is right. Assumes nothing.
use Rattle.std.proofs.Common.{◌≡◌, ℕ, zero, suc, ◌+◌, ◌-◌, ◌*◌, ◌^◌, ◌<◌, ◌≤◌, Bool, true, false, sym, refl, ap, ◌∙◌, subst, inr, le_trans, le_of_eq, le_refl, add-zero, add-le-add, mul-le-mul_right, mul_assoc, mul_comm, add-mul, mul-add, mul_left_comm, arith, lit<, lit≤, leb-false, leb-true}
use native.Mathlib.Nat.{le_of_mul-le-mul_left}
use lib.Ieee.{Float, nan, lt}
use Rattle.arith.specs.Floats.{scaled}
use Rattle.angles.specs.Series.{Near, cos_up, cos_down, cos_den, sum_of}
use Rattle.angles.proofs.Near.{compared}
use Rattle.angles.proofs.CosNear.{cos_plus_near, cos_minus_near}
use Rattle.angles.proofs.Steps.{half_drops, least_drop, line_drops, line_drops_far, fall_unit}
use Rattle.angles.proofs.BracketLaws.{Brackets, brackets}
use Rattle.angles.proofs.LeastLaws.{Found, least_found, least_within, part_falls}
use Rattle.angles.specs.Requires.{Falls, Part, Steep}
use Rattle.angles.specs.Grid.{odd_half, half, in_steps, zero32, one32, within}
use Rattle.angles.proofs.GridLaws.{half_near}
use Rattle.angles.specs.Bound.{AtMost, AtLeast}
use Rattle.angles.specs.Arccosine.{acos_top, plus_at, minus_at, acos_low, acos_high, above, acos_steps, acos_of}

half_le : (k : ℕ) → k ≤ acos_top → half k ≤ 2 ^ 63
half_le k h = omega arith

abbrev den : ℕ
den = cos_den (2 ^ 23)

den_pos : 0 < den
den_pos = lit< tt

outweighs : (69 + 0) * den ≤ 2 ^ 57 * least_drop
outweighs = lit≤ tt

-- from k and a half steps to the next: two half steps
abbrev pub Falls-by : ℕ → ℕ → ℕ → Type 0
Falls-by a c r = cos_up c (2 ^ 23) + cos_down a (2 ^ 23) + r ≤ cos_up a (2 ^ 23) + cos_down c (2 ^ 23)

pub two_falls : (k r s v : ℕ) → Falls-by (odd_half k) (odd_half k + 1) r → Falls-by (odd_half k + 1) (odd_half k + 1 + 1) s → v ≤ r + s → Falls-by (odd_half k) (odd_half (k + 1)) v
two_falls k r s v f g m =
    subst (λ (z : ℕ). Falls-by (odd_half k) z v) (next k)
    (sum_up (cos_up (odd_half k) (2 ^ 23)) (cos_down (odd_half k) (2 ^ 23)) (cos_up (odd_half k + 1) (2 ^ 23)) (cos_down (odd_half k + 1) (2 ^ 23)) (cos_up (odd_half k + 1 + 1) (2 ^ 23)) (cos_down (odd_half k + 1 + 1) (2 ^ 23)) r s v f g m)
  where
    next : (k : ℕ) → odd_half k + 1 + 1 ≡ odd_half (k + 1)
    next k = omega arith

    sum_up : (u d u1 d1 u2 d2 r s v : ℕ) → u1 + d + r ≤ u + d1 → u2 + d1 + s ≤ u1 + d2 → v ≤ r + s → u2 + d + v ≤ u + d2
    sum_up u d u1 d1 u2 d2 r s v h k m = omega arith

drop_two : (k : ℕ) → k < 13176793 → Falls-by (odd_half k) (odd_half (k + 1)) least_drop
drop_two k h = two_falls k least_drop least_drop least_drop (half_drops (odd_half k) (one k) (low k h)) (half_drops (odd_half k + 1) (two k) (high k h)) (twice least_drop)
  where
    one : (k : ℕ) → 1 ≤ odd_half k
    one k = omega arith

    two : (k : ℕ) → 1 ≤ odd_half k + 1
    two k = omega arith

    low : (k : ℕ) → k < 13176793 → odd_half k < 26353588
    low k h = omega arith

    high : (k : ℕ) → k < 13176793 → odd_half k + 1 < 26353588
    high k h = omega arith

    twice : (r : ℕ) → r ≤ r + r
    twice r = omega arith

evaluated : (k q r : ℕ) → k < 13176793 → (69 + q) * den ≤ 2 ^ 57 * r → Falls-by (odd_half k) (odd_half (k + 1)) r → plus_at (k + 1) + minus_at k + q ≤ plus_at k + minus_at (k + 1)
evaluated k q r h R I =
    let b = 2 ^ 23 in
    let j = k + 1 in
    let lk : k ≤ 13176794 = omega arith in
    let lj : j ≤ 13176794 = omega arith in
    let pk = cos_plus_near (odd_half k) b (half k) (lit< tt) (half_le k lk) (half_near k) in
    let nk = cos_minus_near (odd_half k) b (half k) (lit< tt) (half_le k lk) (half_near k) in
    let pj = cos_plus_near (odd_half j) b (half j) (lit< tt) (half_le j lj) (half_near j) in
    let nj = cos_minus_near (odd_half j) b (half j) (lit< tt) (half_le j lj) (half_near j) in
    compared (cos_up (odd_half j) b) (cos_down (odd_half k) b) (cos_up (odd_half k) b) (cos_down (odd_half j) b) den (plus_at j) (minus_at k) (plus_at k) (minus_at j) 52 17 (2 ^ 57) r q den_pos
    pj.0 nk.0 pk.1 nj.1 R I

-- ---- the sides part as the evaluations do
sides : (s : Bool) (k q t : ℕ) → plus_at (k + 1) + minus_at k + q ≤ plus_at k + minus_at (k + 1) → Part (acos_low s t) (acos_high s t) q k
sides false k q t h = shift (plus_at k) (plus_at (k + 1)) (minus_at k) (minus_at (k + 1)) t q h
  where
    shift : (p p' n n' t q : ℕ) → p' + n + q ≤ p + n' → t + 65 + n + p' + q ≤ t + 65 + n' + p
    shift p p' n n' t q h = omega arith
sides true k q t h = shift (plus_at k) (plus_at (k + 1)) (minus_at k) (minus_at (k + 1)) t q h
  where
    shift : (p p' n n' t q : ℕ) → p' + n + q ≤ p + n' → n + 64 + (p' + t) + q ≤ n' + 64 + (p + t)
    shift p p' n n' t q h = omega arith

parts : (s : Bool) (t k : ℕ) → k + 1 < acos_top → Part (acos_low s t) (acos_high s t) 0 k
parts s t k h =
    let l : k < 13176793 = omega arith in
    sides s k 0 t (evaluated k 0 least_drop l outweighs (drop_two k l))

pub acos_falls : (s : Bool) (t : ℕ) → Falls (above s t) acos_top
unfolding above
acos_falls s t = part_falls (acos_low s t) (acos_high s t) acos_top (parts s t)

acos_found : (s : Bool) (t : ℕ) → Found (above s t) acos_top (acos_steps s t)
unfolding acos_steps
acos_found s t = least_found (above s t) acos_top

pub acos_steps_below : (s : Bool) (t : ℕ) → acos_steps s t ≤ 13176794
unfolding acos_steps
acos_steps_below s t = least_within (above s t) acos_top

-- ---- and its cosine series, w steps below and above, has the argument between

-- the cosine series at a half steps is at least, at most, the number x / y with the sign s
abbrev pub CosGe : Bool → ℕ → ℕ → ℕ → Type 0
CosGe s a x y = AtLeast (cos_up a (2 ^ 23)) (cos_down a (2 ^ 23)) den s x y

abbrev pub CosLe : Bool → ℕ → ℕ → ℕ → Type 0
CosLe s a x y = AtMost (cos_up a (2 ^ 23)) (cos_down a (2 ^ 23)) den s x y

-- on plain numbers, in units of den * y / s: what is known of each part
units : (m c s a y : ℕ) → m * c ≤ s * a → m * (c * y) ≤ s * (a * y)
units m c s a y h = le_trans (le_of_eq (sym (mul_assoc m c y))) (le_trans (mul-le-mul_right y h) (le_of_eq (mul_assoc s a y)))

units_up : (m c s a y : ℕ) → s * a ≤ m * c → s * (a * y) ≤ m * (c * y)
units_up m c s a y h = le_trans (le_of_eq (sym (mul_assoc s a y))) (le_trans (mul-le-mul_right y h) (le_of_eq (mul_assoc m c y)))

units_x : (t c s x y : ℕ) → t * y ≤ s * x → t * (c * y) ≤ s * (x * c)
units_x t c s x y h =
    let a : t * (c * y) ≡ t * y * c = simp (mul_assoc, mul_comm, mul_left_comm) in
    le_trans (le_of_eq a) (le_trans (mul-le-mul_right c h) (le_of_eq (mul_assoc s x c)))

units_x_up : (t c s x y : ℕ) → s * x ≤ t * y → s * (x * c) ≤ t * (c * y)
units_x_up t c s x y h =
    let a : t * (c * y) ≡ t * y * c = simp (mul_assoc, mul_comm, mul_left_comm) in
    le_trans (le_of_eq (sym (mul_assoc s x c))) (le_trans (mul-le-mul_right c h) (le_of_eq (sym a)))

sum_le : (s a b c m n q u : ℕ) → 0 < s → s * a ≤ m * u → s * b ≤ n * u → q * u ≤ s * c → m + n ≤ q → a + b ≤ c
sum_le s a b c m n q u S A B C h =
    le_of_mul-le-mul_left {k = s} (le_trans (le_of_eq (mul-add s a b)) (le_trans (add-le-add A B) (le_trans (le_of_eq (sym (add-mul m n u))) (le_trans (mul-le-mul_right u h) C)))) S

le_sum : (s a b c m n q u : ℕ) → 0 < s → s * a ≤ m * u → n * u ≤ s * b → q * u ≤ s * c → m ≤ n + q → a ≤ b + c
le_sum s a b c m n q u S A B C h =
    le_of_mul-le-mul_left {k = s} (le_trans A (le_trans (mul-le-mul_right u h) (le_trans (le_of_eq (add-mul n q u)) (le_trans (add-le-add B C) (le_of_eq (sym (mul-add s b c))))))) S

-- the same with 117 units to spare, which a half step outweighs
outweighs_117 : 117 * den ≤ 2 ^ 57 * least_drop
outweighs_117 = lit≤ tt

module _ (t x y k : ℕ) (l : k ≤ 13176793) (X0 : t * y ≤ 2 ^ 57 * x) (X1 : 2 ^ 57 * x ≤ (t + 1) * y) where
  le_top : k ≤ 13176794
  le_top = omega arith

  pk : Near (2 ^ 57) (cos_up (odd_half k) (2 ^ 23)) den (plus_at k) 52
  pk = cos_plus_near (odd_half k) (2 ^ 23) (half k) (lit< tt) (half_le k le_top) (half_near k)

  nk : Near (2 ^ 57) (cos_down (odd_half k) (2 ^ 23)) den (minus_at k) 17
  nk = cos_minus_near (odd_half k) (2 ^ 23) (half k) (lit< tt) (half_le k le_top) (half_near k)

  abbrev up : ℕ
  up = cos_up (odd_half k) (2 ^ 23)

  abbrev dn : ℕ
  dn = cos_down (odd_half k) (2 ^ 23)

  abbrev u : ℕ
  u = den * y

  pub ge_at : (s : Bool) → above s t k ≡ true → CosGe s (odd_half k) x y
  unfolding above
  ge_at false e = sum_le (2 ^ 57) (x * den) (dn * y) (up * y) (t + 1) (minus_at k + 17) (plus_at k) u (lit< tt) (units_x_up (t + 1) den (2 ^ 57) x y X1) (units_up (minus_at k + 17) den (2 ^ 57) dn y nk.1) (units (plus_at k) den (2 ^ 57) up y pk.0) (room t (minus_at k) (plus_at k) (leb-true (t + 65 + minus_at k) (plus_at k) e))
    where
      room : (t n p : ℕ) → t + 65 + n ≤ p → t + 1 + (n + 17) ≤ p
      room t n p h = omega arith
  ge_at true e = le_sum (2 ^ 57) (dn * y) (up * y) (x * den) (minus_at k + 17) (plus_at k) t u (lit< tt) (units_up (minus_at k + 17) den (2 ^ 57) dn y nk.1) (units (plus_at k) den (2 ^ 57) up y pk.0) (units_x t den (2 ^ 57) x y X0) (room t (minus_at k) (plus_at k) (leb-true (minus_at k + 64) (plus_at k + t) e))
    where
      room : (t n p : ℕ) → n + 64 ≤ p + t → n + 17 ≤ p + t
      room t n p h = omega arith

  -- one half step on, r lower
  abbrev up' : ℕ
  up' = cos_up (odd_half k + 1) (2 ^ 23)

  abbrev dn' : ℕ
  dn' = cos_down (odd_half k + 1) (2 ^ 23)

  dropped : up' * y + dn * y + least_drop * y ≤ up * y + dn' * y
  dropped = le_trans (le_of_eq e1) (le_trans (mul-le-mul_right y (half_drops (odd_half k) (low k) (high k l))) (le_of_eq (add-mul up dn' y)))
    where
      low : (k : ℕ) → 1 ≤ odd_half k
      low k = omega arith

      high : (k : ℕ) → k ≤ 13176793 → odd_half k < 26353588
      high k l = omega arith

      e1 : up' * y + dn * y + least_drop * y ≡ (up' + dn + least_drop) * y
      e1 = simp add-mul

  spare : 117 * u ≤ 2 ^ 57 * (least_drop * y)
  spare = units 117 den (2 ^ 57) least_drop y outweighs_117

  pub le_at : (s : Bool) → above s t k ≡ false → CosLe s (odd_half k + 1) x y
  unfolding above
  le_at false e = cancel (up' * y) (dn * y) (least_drop * y) (up * y) (dn' * y) (x * den) dropped (le_three (2 ^ 57) (up * y) (dn * y) (x * den) (least_drop * y) (plus_at k + 52) (minus_at k) t 117 u (lit< tt) (units_up (plus_at k + 52) den (2 ^ 57) up y pk.1) (units (minus_at k) den (2 ^ 57) dn y nk.0) (units_x t den (2 ^ 57) x y X0) spare (room t (minus_at k) (plus_at k) (leb-false (t + 65 + minus_at k) (plus_at k) e)))
    where
      room : (t n p : ℕ) → p < t + 65 + n → p + 52 ≤ n + t + 117
      room t n p h = omega arith

      cancel : (a d r b d' z : ℕ) → a + d + r ≤ b + d' → b ≤ d + z + r → a ≤ d' + z
      cancel a d r b d' z h k = omega arith

      le_three : (s a b c d m n q v u : ℕ) → 0 < s → s * a ≤ m * u → n * u ≤ s * b → q * u ≤ s * c → v * u ≤ s * d → m ≤ n + q + v → a ≤ b + c + d
      le_three s a b c d m n q v u S A B C E h = le_sum s a (b + c) d m (n + q) v u S A (le_trans (le_of_eq (add-mul n q u)) (le_trans (add-le-add B C) (le_of_eq (sym (mul-add s b c))))) E h
  le_at true e = cancel (up' * y) (dn * y) (least_drop * y) (up * y) (dn' * y) (x * den) dropped (two_two (2 ^ 57) (up * y) (x * den) (dn * y) (least_drop * y) (plus_at k + 52) (t + 1) (minus_at k) 117 u (lit< tt) (units_up (plus_at k + 52) den (2 ^ 57) up y pk.1) (units_x_up (t + 1) den (2 ^ 57) x y X1) (units (minus_at k) den (2 ^ 57) dn y nk.0) spare (room t (minus_at k) (plus_at k) (leb-false (minus_at k + 64) (plus_at k + t) e)))
    where
      room : (t n p : ℕ) → p + t < n + 64 → p + 52 + (t + 1) ≤ n + 117
      room t n p h = omega arith

      cancel : (a d r b d' z : ℕ) → a + d + r ≤ b + d' → b + z ≤ d + r → a + z ≤ d'
      cancel a d r b d' z h k = omega arith

      two_two : (s a b c d m n q v u : ℕ) → 0 < s → s * a ≤ m * u → s * b ≤ n * u → q * u ≤ s * c → v * u ≤ s * d → m + n ≤ q + v → a + b ≤ c + d
      two_two s a b c d m n q v u S A B C E h = sum_le s a b (c + d) m n (q + v) u S A B (le_trans (le_of_eq (add-mul q v u)) (le_trans (add-le-add C E) (le_of_eq (sym (mul-add s c d))))) h

-- ---- any number of half steps
first_half : cos_up 1 (2 ^ 23) + cos_down 0 (2 ^ 23) ≤ cos_up 0 (2 ^ 23) + cos_down 1 (2 ^ 23)
unfolding cos_up cos_down sum_of
first_half = lit≤ tt

one_half : (a : ℕ) → a < 26353588 → cos_up (a + 1) (2 ^ 23) + cos_down a (2 ^ 23) ≤ cos_up a (2 ^ 23) + cos_down (a + 1) (2 ^ 23)
one_half zero k = first_half
one_half (suc a) k = drop_r (cos_up (suc a + 1) (2 ^ 23)) (cos_down (suc a) (2 ^ 23)) least_drop (cos_up (suc a) (2 ^ 23) + cos_down (suc a + 1) (2 ^ 23)) (half_drops (suc a) (omega arith) k)
  where
    drop_r : (u d r v : ℕ) → u + d + r ≤ v → u + d ≤ v
    drop_r u d r v h = omega arith

falls_step : (d a : ℕ) → a + suc d ≤ 26353588 → cos_up (a + d) (2 ^ 23) + cos_down a (2 ^ 23) ≤ cos_up a (2 ^ 23) + cos_down (a + d) (2 ^ 23) → cos_up (a + suc d) (2 ^ 23) + cos_down a (2 ^ 23) ≤ cos_up a (2 ^ 23) + cos_down (a + suc d) (2 ^ 23)
falls_step d a h k =
    let e : a + d + 1 ≡ a + suc d = omega arith in
    let l : a + d < 26353588 = omega arith in
    subst (λ (z : ℕ). cos_up z (2 ^ 23) + cos_down a (2 ^ 23) ≤ cos_up a (2 ^ 23) + cos_down z (2 ^ 23)) e
    (both (cos_up a (2 ^ 23)) (cos_down a (2 ^ 23)) (cos_up (a + d) (2 ^ 23)) (cos_down (a + d) (2 ^ 23)) (cos_up (a + d + 1) (2 ^ 23)) (cos_down (a + d + 1) (2 ^ 23)) k (one_half (a + d) l))
  where
    both : (u d u1 d1 u2 d2 : ℕ) → u1 + d ≤ u + d1 → u2 + d1 ≤ u1 + d2 → u2 + d ≤ u + d2
    both u d u1 d1 u2 d2 h k = omega arith

pub falls : (d a : ℕ) → a + d ≤ 26353588 → cos_up (a + d) (2 ^ 23) + cos_down a (2 ^ 23) ≤ cos_up a (2 ^ 23) + cos_down (a + d) (2 ^ 23)
falls zero a h = le_of_eq (ap (λ (z : ℕ). cos_up z (2 ^ 23) + cos_down a (2 ^ 23)) (add-zero a) ∙ ap (λ (z : ℕ). cos_up a (2 ^ 23) + cos_down z (2 ^ 23)) (sym (add-zero a)))
falls (suc d) a h = falls_step d a h (falls d a (less a d h))
  where
    less : (a d : ℕ) → a + suc d ≤ 26353588 → a + d ≤ 26353588
    less a d h = omega arith

lower_still : (u d u' d' z y : ℕ) → u' + d ≤ u + d' → u * y ≤ d * y + z → u' * y ≤ d' * y + z
lower_still u d u' d' z y h k =
    cancel (u * y) (d * y) (u' * y) (d' * y) z (le_trans (le_of_eq (sym (add-mul u' d y))) (le_trans (mul-le-mul_right y h) (le_of_eq (add-mul u d' y)))) k
  where
    cancel : (a b c d z : ℕ) → c + b ≤ a + d → a ≤ b + z → c ≤ d + z
    cancel a b c d z h k = omega arith

lower_neg : (u d u' d' z y : ℕ) → u' + d ≤ u + d' → u * y + z ≤ d * y → u' * y + z ≤ d' * y
lower_neg u d u' d' z y h k =
    cancel (u * y) (d * y) (u' * y) (d' * y) z (le_trans (le_of_eq (sym (add-mul u' d y))) (le_trans (mul-le-mul_right y h) (le_of_eq (add-mul u d' y)))) k
  where
    cancel : (a b c d z : ℕ) → c + b ≤ a + d → a + z ≤ b → c + z ≤ d
    cancel a b c d z h k = omega arith

-- further on the series is lower, and before it higher
ge_before : (s : Bool) (a d x y : ℕ) → a + d ≤ 26353588 → CosGe s (a + d) x y → CosGe s a x y
ge_before false a d x y l g = flip (x * den) (cos_down a (2 ^ 23) * y) (cos_up a (2 ^ 23) * y) (lower_neg (cos_down (a + d) (2 ^ 23)) (cos_up (a + d) (2 ^ 23)) (cos_down a (2 ^ 23)) (cos_up a (2 ^ 23)) (x * den) y (turn (cos_up (a + d) (2 ^ 23)) (cos_down a (2 ^ 23)) (cos_up a (2 ^ 23)) (cos_down (a + d) (2 ^ 23)) (falls d a l)) (flip (cos_down (a + d) (2 ^ 23) * y) (x * den) (cos_up (a + d) (2 ^ 23) * y) g))
  where
    turn : (p q r s : ℕ) → p + q ≤ r + s → q + p ≤ s + r
    turn p q r s h = omega arith

    flip : (p q r : ℕ) → q + p ≤ r → p + q ≤ r
    flip p q r h = omega arith
ge_before true a d x y l g = lower_still (cos_down (a + d) (2 ^ 23)) (cos_up (a + d) (2 ^ 23)) (cos_down a (2 ^ 23)) (cos_up a (2 ^ 23)) (x * den) y (turn (cos_up (a + d) (2 ^ 23)) (cos_down a (2 ^ 23)) (cos_up a (2 ^ 23)) (cos_down (a + d) (2 ^ 23)) (falls d a l)) g
  where
    turn : (p q r s : ℕ) → p + q ≤ r + s → q + p ≤ s + r
    turn p q r s h = omega arith

le_after : (s : Bool) (a d x y : ℕ) → a + d ≤ 26353588 → CosLe s a x y → CosLe s (a + d) x y
le_after false a d x y l g = lower_still (cos_up a (2 ^ 23)) (cos_down a (2 ^ 23)) (cos_up (a + d) (2 ^ 23)) (cos_down (a + d) (2 ^ 23)) (x * den) y (falls d a l) g
le_after true a d x y l g = lower_neg (cos_up a (2 ^ 23)) (cos_down a (2 ^ 23)) (cos_up (a + d) (2 ^ 23)) (cos_down (a + d) (2 ^ 23)) (x * den) y (falls d a l) g

-- angles below 0 have no sine above 0 and are dropped, as are those from 13176795 steps on
abbrev pub Bracket : ℕ → Bool → (x y k : ℕ) → Type 0
Bracket w s x y k = Brackets (λ (a : ℕ). CosGe s a x y) (λ (a : ℕ). CosLe s a x y) acos_top w k

pub acos_brackets : (w : ℕ) (s : Bool) (t x y : ℕ) → t * y ≤ 2 ^ 57 * x → 2 ^ 57 * x ≤ (t + 1) * y → Bracket w s x y (acos_steps s t)
acos_brackets w s t x y X0 X1 =
    brackets (above s t) acos_top (λ (a : ℕ). CosGe s a x y) (λ (a : ℕ). CosLe s a x y)
    (λ (k : ℕ) (l : k < acos_top) (e : above s t k ≡ true). ge_at t x y k (less k l) X0 X1 s e) (λ (k : ℕ) (l : k < acos_top) (e : above s t k ≡ false). le_at t x y k (less k l) X0 X1 s e)
    (λ (a : ℕ) (d : ℕ) (h : a + d ≤ 26353588) (g : CosGe s (a + d) x y). ge_before s a d x y h g) (λ (a : ℕ) (d : ℕ) (h : a + d ≤ 26353588) (g : CosLe s a x y). le_after s a d x y h g) w (acos_steps s t) (acos_found s t)
  where
    less : (k : ℕ) → k < acos_top → k ≤ 13176793
    less k l = omega arith

-- ---- one evaluation is enough, where it is not too far off

-- what a step changes at the least, in units, less 69: 5/8 of the angle at an argument not below 0, and of what is left to the half turn at one below 0
abbrev pub acos_slack : Bool → ℕ → ℕ
acos_slack false j = 5120 * (j - 1)
acos_slack true j = 5120 * (13176793 - j)

-- where that holds, from j - 1 to j + 1
abbrev pub Reached : Bool → ℕ → Type 0
Reached false j = (1 ≤ j) × (j ≤ 6588998)
Reached true j = (6588251 ≤ j) × (j ≤ 13175442)

units_of : 1280 * den ≡ 2 ^ 57 * fall_unit
units_of = refl

scale : (c m n : ℕ) → c ≤ 1280 * (m + n) → c * den ≤ 2 ^ 57 * (fall_unit * m + fall_unit * n)
scale c m n h = le_trans (go c (m + n) den (2 ^ 57) fall_unit units_of h) (le_of_eq (ap (λ (w : ℕ). 2 ^ 57 * w) (mul-add fall_unit m n)))
  where
    go : (c m d s u : ℕ) → 1280 * d ≡ s * u → c ≤ 1280 * m → c * d ≤ s * (u * m)
    go c m d s u e h =
        let a : 1280 * m * d ≡ 1280 * d * m = simp (mul_assoc, mul_comm, mul_left_comm) in
        le_trans (mul-le-mul_right d h) (le_of_eq (a ∙ ap (λ (w : ℕ). w * m) e ∙ mul_assoc s u m))

near_part : (t k q : ℕ) → k ≤ 6588998 → 69 + q ≤ 1280 * (odd_half k + (odd_half k + 1)) → Part (acos_low false t) (acos_high false t) q k
near_part t k q h m =
    let a = odd_half k in
    let l : k < 13176793 = omega arith in
    let a1 : 1 ≤ a = omega arith in
    let a2 : 1 ≤ a + 1 = omega arith in
    let b1 : a < 13178000 = omega arith in
    let b2 : a + 1 < 13178000 = omega arith in
    sides false k q t (evaluated k q (fall_unit * a + fall_unit * (a + 1)) l (scale (69 + q) a (a + 1) m) (two_falls k (fall_unit * a) (fall_unit * (a + 1)) (fall_unit * a + fall_unit * (a + 1)) (line_drops a a1 b1) (line_drops (a + 1) a2 b2) (le_refl (fall_unit * a + fall_unit * (a + 1)))))

far_part : (t k q : ℕ) → 6588250 ≤ k → k ≤ 13175442 → 69 + q ≤ 1280 * ((26353588 - odd_half k) + (26353588 - (odd_half k + 1))) → Part (acos_low true t) (acos_high true t) q k
far_part t k q g h m =
    let a = odd_half k in
    let r = fall_unit * (26353588 - a) in
    let s = fall_unit * (26353588 - (a + 1)) in
    let l : k < 13176793 = omega arith in
    let a1 : 13176500 ≤ a = omega arith in
    let a2 : 13176500 ≤ a + 1 = omega arith in
    let b1 : a < 26350888 = omega arith in
    let b2 : a + 1 < 26350888 = omega arith in
    sides true k q t (evaluated k q (r + s) l (scale (69 + q) (26353588 - a) (26353588 - (a + 1)) m) (two_falls k r s (r + s) (line_drops_far a a1 b1) (line_drops_far (a + 1) a2 b2) (le_refl (r + s))))

pub acos_steep : (s : Bool) (t j : ℕ) → Reached s j → Steep (acos_low s t) (acos_high s t) acos_top (acos_slack s j) j
acos_steep false t j (h, l) = inr (top j l, (inr (near_part t (j - 1) (acos_slack false j) (less j l) (before j h)), near_part t j (acos_slack false j) l (here j)))
  where
    top : (j : ℕ) → j ≤ 6588998 → j + 1 ≤ 13176794
    top j l = omega arith

    less : (j : ℕ) → j ≤ 6588998 → j - 1 ≤ 6588998
    less j l = omega arith

    before : (j : ℕ) → 1 ≤ j → 69 + 5120 * (j - 1) ≤ 1280 * (odd_half (j - 1) + (odd_half (j - 1) + 1))
    before j h = omega arith

    here : (j : ℕ) → 69 + 5120 * (j - 1) ≤ 1280 * (odd_half j + (odd_half j + 1))
    here j = omega arith
acos_steep true t j (h, l) = inr (top j l, (inr (far_part t (j - 1) (acos_slack true j) (from j h) (less j l) (before j h l)), far_part t j (acos_slack true j) (at_least j h) l (here j l)))
  where
    top : (j : ℕ) → j ≤ 13175442 → j + 1 ≤ 13176794
    top j l = omega arith

    from : (j : ℕ) → 6588251 ≤ j → 6588250 ≤ j - 1
    from j h = omega arith

    at_least : (j : ℕ) → 6588251 ≤ j → 6588250 ≤ j
    at_least j h = omega arith

    less : (j : ℕ) → j ≤ 13175442 → j - 1 ≤ 13175442
    less j l = omega arith

    before : (j : ℕ) → 6588251 ≤ j → j ≤ 13175442 → 69 + 5120 * (13176793 - j) ≤ 1280 * ((26353588 - odd_half (j - 1)) + (26353588 - (odd_half (j - 1) + 1)))
    before j h l = omega arith

    here : (j : ℕ) → j ≤ 13175442 → 69 + 5120 * (13176793 - j) ≤ 1280 * ((26353588 - odd_half j) + (26353588 - (odd_half j + 1)))
    here j l = omega arith

-- ---- on f32
pub acos_inside : (x : Float) → within one32 x ≡ true → in_steps false (acos_steps (lt x zero32) (scaled 57 x)) ≡ acos_of x
unfolding acos_of
acos_inside x e = rw e

pub acos_outside : (x : Float) → within one32 x ≡ false → nan ≡ acos_of x
unfolding acos_of
acos_outside x e = rw e
