-- Fixed-point numbers that have lost at most so many units, and their products: the evaluation of the sine has lost at most 28 units of the added terms and 40 of those taken away, at every angle up to 4.
-- Assumes nothing.
use Rattle.std.proofs.Common.{◌≡◌, ℕ, ◌+◌, ◌-◌, ◌*◌, ◌^◌, ◌<◌, ◌≤◌, T, List, sym, refl, ap, ◌∙◌, subst, le_trans, le_of_eq, add_assoc, add-le-add, mul-le-mul_right, mul_assoc, mul_comm, add-mul, mul-le-mul, add_comm, mul-le-mul_left, mul-pos, pow-suc, mul-add, div-mul-le_self, le_of_mul-le-mul_right, mul_left_comm, arith, lit<, lit≤}
use native.Mathlib.Nat.{add_left_comm}
use Rattle.angles.specs.Series.{mh, sum_of, fixed, Near, fourth, square, cube, power, d25, sin_plus_terms, sin_minus_terms, sin_up, sin_down, sin_den, sin_plus, sin_minus}
use Rattle.angles.proofs.Error.{over, mh_le, fixed_le, modest, degree, near_sum}

product_below : (s a b x s' a' b' x' S g M : ℕ) → s * s' ≡ S * M → 0 < M → g * M ≤ x * x' → x * b ≤ s * a → x' * b' ≤ s' * a' → g * (b * b') ≤ S * (a * a')
product_below s a b x s' a' b' x' S g M q P G h k =
    le_of_mul-le-mul_right {k = M}
    (le_trans (le_of_eq e1) (le_trans (mul-le-mul_right (b * b') G) (le_trans (le_of_eq e2) (le_trans (mul-le-mul h k) (le_of_eq (e3 ∙ ap (λ (w : ℕ). w * (a * a')) q ∙ e4))))))
    P
  where
    e1 : g * (b * b') * M ≡ g * M * (b * b')
    e1 = simp (mul_assoc, mul_comm, mul_left_comm)

    e2 : x * x' * (b * b') ≡ x * b * (x' * b')
    e2 = simp (mul_assoc, mul_comm, mul_left_comm)

    e3 : s * a * (s' * a') ≡ s * s' * (a * a')
    e3 = simp (mul_assoc, mul_comm, mul_left_comm)

    e4 : S * M * (a * a') ≡ S * (a * a') * M
    e4 = simp (mul_assoc, mul_comm, mul_left_comm)

product_above : (s a b w s' a' b' w' S t M : ℕ) → s * s' ≡ S * M → 0 < M → w * w' ≤ t * M → s * a ≤ w * b → s' * a' ≤ w' * b' → S * (a * a') ≤ t * (b * b')
product_above s a b w s' a' b' w' S t M q P G h k =
    le_of_mul-le-mul_right {k = M}
    (le_trans (le_of_eq (sym (e3 ∙ ap (λ (u : ℕ). u * (a * a')) q ∙ e4))) (le_trans (mul-le-mul h k) (le_trans (le_of_eq (sym e2)) (le_trans (mul-le-mul_right (b * b') G) (le_of_eq (sym e1))))))
    P
  where
    e1 : t * (b * b') * M ≡ t * M * (b * b')
    e1 = simp (mul_assoc, mul_comm, mul_left_comm)

    e2 : w * w' * (b * b') ≡ w * b * (w' * b')
    e2 = simp (mul_assoc, mul_comm, mul_left_comm)

    e3 : s * a * (s' * a') ≡ s * s' * (a * a')
    e3 = simp (mul_assoc, mul_comm, mul_left_comm)

    e4 : S * M * (a * a') ≡ S * (a * a') * M
    e4 = simp (mul_assoc, mul_comm, mul_left_comm)

pub near_product : (s a b x e s' a' b' x' e' S E : ℕ) → s * s' ≡ S * 2 ^ 64 → (x + e) * (x' + e') ≤ (mh x x' + E) * 2 ^ 64 → Near s a b x e → Near s' a' b' x' e' → Near S (a * a') (b * b') (mh x x') E
near_product s a b x e s' a' b' x' e' S E q L h k = (
  product_below s a b x s' a' b' x' S (mh x x') (2 ^ 64) q (lit< tt) (div-mul-le_self (x * x') (2 ^ 64)) h.0 k.0,
  product_above s a b (x + e) s' a' b' (x' + e') S (mh x x' + E) (2 ^ 64) q (lit< tt) L h.1 k.1,
)

-- what a product loses: x * x' less than a unit, and e' of x, e of x', e * e' itself
pub loss : (x e x' e' E : ℕ) → x * e' + e * x' + e * e' ≤ E * 2 ^ 64 → (x + e) * (x' + e') ≤ (mh x x' + (E + 1)) * 2 ^ 64
loss x e x' e' E h =
    let a : (x + e) * (x' + e') ≡ x * x' + (x * e' + e * x' + e * e') = simp (mul-add, add-mul, add_assoc, add_comm, add_left_comm) in
    let o = over (x * x') (2 ^ 64) (lit< tt) in
    let g = mh x x' in
    let r : (g + (E + 1)) * 2 ^ 64 ≡ (g + 1) * 2 ^ 64 + E * 2 ^ 64 = omega arith in
    le_trans (le_of_eq a) (le_trans (add-le-add o h) (le_of_eq (sym r)))

-- ---- how large the square, the third and the fourth power are, at an angle up to 4
pub mh_under : (x y X Y Z : ℕ) → x ≤ X → y ≤ Y → X * Y ≤ Z * 2 ^ 64 → mh x y ≤ Z
mh_under x y X Y Z h k l = le_of_mul-le-mul_right {k = 2 ^ 64} (le_trans (div-mul-le_self (x * y) (2 ^ 64)) (le_trans (mul-le-mul h k) l)) (lit< tt)

pub square_le : (n : ℕ) → n ≤ 2 ^ 63 → square n ≤ 2 ^ 62
square_le n h = mh_under n n (2 ^ 63) (2 ^ 63) (2 ^ 62) h h (lit≤ tt)

pub power_le : (n : ℕ) → n ≤ 2 ^ 63 → power n ≤ 2 ^ 63
power_le n h = mul-le-mul_right 8 (mh_under (square n) (square n) (2 ^ 62) (2 ^ 62) (2 ^ 60) (square_le n h) (square_le n h) (lit≤ tt))

pub cube_le : (n : ℕ) → n ≤ 2 ^ 63 → cube n ≤ 2 ^ 63
cube_le n h = mul-le-mul_right 4 (mh_under n (square n) (2 ^ 63) (2 ^ 62) (2 ^ 61) h (square_le n h) (lit≤ tt))

-- ---- the evaluation, and how large it is
pub sin_plus_le : (n : ℕ) → n ≤ 2 ^ 63 → sin_plus n ≤ 2 ^ 63
unfolding sin_plus
sin_plus_le n h = mh_le n (fixed d25 (2 ^ 60) sin_plus_terms (power n)) h (le_trans (fixed_le d25 (2 ^ 60) sin_plus_terms (power n) (power_le n h) tt) (lit≤ tt))

pub sin_minus_le : (n : ℕ) → n ≤ 2 ^ 63 → sin_minus n ≤ 2 ^ 63
unfolding sin_minus
sin_minus_le n h = mh_le (cube n) (fixed d25 (2 ^ 64) sin_minus_terms (power n)) (cube_le n h) (le_trans (fixed_le d25 (2 ^ 64) sin_minus_terms (power n) (power_le n h) tt) (lit≤ tt))

module _ (a b n : ℕ) (b-pos : 0 < b) (n_le : n ≤ 2 ^ 63) (at : Near (2 ^ 61) a b n 1) where
  pub square_near : Near (2 ^ 58) (a * a) (b * b) (square n) 3
  square_near = near_product (2 ^ 61) a b n 1 (2 ^ 61) a b n 1 (2 ^ 58) 3 refl (loss n 1 n 1 2 (small n n_le)) at at
    where
      small : (x : ℕ) → x ≤ 2 ^ 63 → x * 1 + 1 * x + 1 * 1 ≤ 2 * 2 ^ 64
      small x h = omega arith

  fourth_near : Near (2 ^ 52) (fourth a) (fourth b) (mh (square n) (square n)) 3
  fourth_near = near_product (2 ^ 58) (a * a) (b * b) (square n) 3 (2 ^ 58) (a * a) (b * b) (square n) 3 (2 ^ 52) 3 refl (loss (square n) 3 (square n) 3 2 (small (square n) (square_le n n_le))) square_near square_near
    where
      small : (z : ℕ) → z ≤ 2 ^ 62 → z * 3 + 3 * z + 3 * 3 ≤ 2 * 2 ^ 64
      small z h = omega arith

  pub power_below : power n * (512 * fourth b) ≤ fourth a * 2 ^ 64
  power_below = scaled (mh (square n) (square n)) (fourth b) (fourth a) fourth_near.0
    where
      scaled : (x m y : ℕ) → x * m ≤ 2 ^ 52 * y → x * 8 * (512 * m) ≤ y * 2 ^ 64
      scaled x m y h =
          let e : x * 8 * (512 * m) ≡ x * m * 4096 = simp (mul_assoc, mul_comm, mul_left_comm) (omega arith) in
          omega (arith, e, h)

  pub power_above : fourth a * 2 ^ 64 ≤ (power n + 24) * (512 * fourth b)
  power_above = scaled (mh (square n) (square n)) (fourth b) (fourth a) fourth_near.1
    where
      scaled : (x m y : ℕ) → 2 ^ 52 * y ≤ (x + 3) * m → y * 2 ^ 64 ≤ (x * 8 + 24) * (512 * m)
      scaled x m y h =
          let e : (x * 8 + 24) * (512 * m) ≡ (x + 3) * m * 4096 = simp (add-mul, mul_assoc, mul_comm, mul_left_comm) (omega arith) in
          omega (arith, e, h)

  pub fourth_pos : 0 < fourth b
  fourth_pos = mul-pos (mul-pos b-pos b-pos) (mul-pos b-pos b-pos)

  pub sums : (d f : ℕ) (cs : List ℕ) → 0 < d → T (modest d f cs) → Near f (sum_of cs (fourth a) (fourth b)) (d * fourth b ^ degree cs) (fixed d f cs (power n)) 52
  sums d f cs D t = near_sum d (fourth a) (fourth b) (power n) 24 D fourth_pos (power_le n n_le) (lit≤ tt) power_below power_above f cs t

  pub plus_near : Near (2 ^ 57) (sin_up a b) (sin_den b) (sin_plus n) 28
  unfolding sin_up sin_den sin_plus
  plus_near =
      let g = fixed d25 (2 ^ 60) sin_plus_terms (power n) in
      near_product (2 ^ 61) a b n 1 (2 ^ 60) (sum_of sin_plus_terms (fourth a) (fourth b)) (d25 * fourth b ^ 6) g 52 (2 ^ 57) 28 refl
      (loss n 1 g 52 27 (small n g n_le (fixed_le d25 (2 ^ 60) sin_plus_terms (power n) (power_le n n_le) tt)))
      at (sums d25 (2 ^ 60) sin_plus_terms (lit< tt) tt)
    where
      small : (x g : ℕ) → x ≤ 2 ^ 63 → g ≤ 2 ^ 64 - 2 ^ 32 → x * 52 + 1 * g + 1 * 52 ≤ 27 * 2 ^ 64
      small x g h k = omega arith

  cube_near : Near (2 ^ 57) (a * (a * a)) (b * (b * b)) (cube n) 12
  cube_near = scaled (mh n (square n)) (b * (b * b)) (a * (a * a)) (near_product (2 ^ 61) a b n 1 (2 ^ 58) (a * a) (b * b) (square n) 3 (2 ^ 55) 3 refl (loss n 1 (square n) 3 2 (small n (square n) n_le (square_le n n_le))) at square_near)
    where
      small : (x z : ℕ) → x ≤ 2 ^ 63 → z ≤ 2 ^ 62 → x * 3 + 1 * z + 1 * 3 ≤ 2 * 2 ^ 64
      small x z h k = omega arith

      scaled : (x m y : ℕ) → Near (2 ^ 55) y m x 3 → Near (2 ^ 57) y m (x * 4) 12
      scaled x m y h =
          let e : x * 4 * m ≡ x * m * 4 = simp (mul_assoc, mul_comm, mul_left_comm) in
          let f : (x * 4 + 12) * m ≡ (x + 3) * m * 4 = simp (add-mul, mul_assoc, mul_comm, mul_left_comm) (omega arith) in
          let h0 = h.0 in
          let h1 = h.1 in
          (omega (arith, e, h0), omega (arith, f, h1))

  pub minus_near : Near (2 ^ 57) (sin_down a b) (sin_den b) (sin_minus n) 40
  unfolding sin_down sin_den sin_minus
  minus_near =
      let y = fourth a in
      let m = fourth b in
      let n3 = cube n in
      let g = fixed d25 (2 ^ 64) sin_minus_terms (power n) in
      subst (λ (k : ℕ). Near (2 ^ 57) (a * (a * a) * sum_of sin_minus_terms y m * (b * b)) (b * (d25 * k)) (mh n3 g) 40) (sym (pow-suc m 5))
      (widened (2 ^ 57) (a * (a * a) * sum_of sin_minus_terms y m) b d25 (m ^ 5) (mh n3 g)
      (near_product (2 ^ 57) (a * (a * a)) (b * (b * b)) n3 12 (2 ^ 64) (sum_of sin_minus_terms y m) (d25 * m ^ 5) g 52 (2 ^ 57) 40 refl
      (loss n3 12 g 52 39 (small n3 g (cube_le n n_le) (fixed_le d25 (2 ^ 64) sin_minus_terms (power n) (power_le n n_le) tt)))
      cube_near (sums d25 (2 ^ 64) sin_minus_terms (lit< tt) tt)))
    where
      small : (x g : ℕ) → x ≤ 2 ^ 63 → g ≤ 2 ^ 64 - 2 ^ 32 → x * 52 + 12 * g + 12 * 52 ≤ 39 * 2 ^ 64
      small x g h k = omega arith

      widened : (s p b d k x : ℕ) → Near s p (b * (b * b) * (d * k)) x 40 → Near s (p * (b * b)) (b * (d * (k * fourth b))) x 40
      widened s p b d k x h =
          let e : (w : ℕ) → w * (b * (d * (k * fourth b))) ≡ w * (b * (b * b) * (d * k)) * (b * b) = λ (w : ℕ). simp (mul_assoc, mul_comm, mul_left_comm) in
          let f : s * (p * (b * b)) ≡ s * p * (b * b) = sym (mul_assoc s p (b * b)) in
          (le_trans (le_of_eq (e x)) (le_trans (mul-le-mul_right (b * b) h.0) (le_of_eq (sym f))), le_trans (le_of_eq f) (le_trans (mul-le-mul_right (b * b) h.1) (le_of_eq (sym (e (x + 40))))))

-- ---- two evaluations compared: the first sum is below the second by q units where the series are c1 + c2 + q apart, for what the second can have lost
pub compared : (u1 u2 v1 v2 den p1 p2 q1 q2 c1 c2 s r q : ℕ) → 0 < den → p1 * den ≤ s * u1 → p2 * den ≤ s * u2 → s * v1 ≤ (q1 + c1) * den → s * v2 ≤ (q2 + c2) * den → (c1 + c2 + q) * den ≤ s * r → u1 + u2 + r ≤ v1 + v2 → p1 + p2 + q ≤ q1 + q2
compared u1 u2 v1 v2 den p1 p2 q1 q2 c1 c2 s r q D P1 P2 Q1 Q2 R I =
    cancel (p1 + p2) q1 q2
    (le_of_mul-le-mul_right {k = den}
    (le_trans (le_of_eq e1)
    (le_trans (add-le-add (add-le-add P1 P2) R)
    (le_trans (le_of_eq e2)
    (le_trans (mul-le-mul_left s I)
    (le_trans (le_of_eq (mul-add s v1 v2))
    (le_trans (add-le-add Q1 Q2) (le_of_eq (sym (add-mul (q1 + c1) (q2 + c2) den)))))))))
    D)
  where
    cancel : (x y z : ℕ) → x + (c1 + c2 + q) ≤ y + c1 + (z + c2) → x + q ≤ y + z
    cancel x y z h = omega arith

    e1 : (p1 + p2 + (c1 + c2 + q)) * den ≡ p1 * den + p2 * den + (c1 + c2 + q) * den
    e1 = add-mul (p1 + p2) (c1 + c2 + q) den ∙ ap (λ (w : ℕ). w + (c1 + c2 + q) * den) (add-mul p1 p2 den)

    e2 : s * u1 + s * u2 + s * r ≡ s * (u1 + u2 + r)
    e2 = simp mul-add
