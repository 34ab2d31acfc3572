-- How far the evaluation of the two sides of the arctangent's test is from the cross-multiplied series: below it, the sine's side by at most 12 and the cosine's by at most 30 units of 2 ^ -33.
-- Assumes nothing.
use Rattle.std.proofs.Common.{◌≡◌, ℕ, ◌+◌, ◌-◌, ◌*◌, ◌/◌, ◌^◌, ◌<◌, ◌≤◌, sym, refl, ap, ◌∙◌, subst, le_trans, le_of_eq, add-le-add, mul-le-mul_right, mul_assoc, mul_comm, add-mul, add_comm, mul-add, le_of_mul-le-mul_right, mul_left_comm, arith, lit<, lit≤}
use Rattle.angles.specs.Series.{Near, mh, fixed, square, power, d24, cos_plus_terms, cos_minus_terms, sin_up, sin_down, sin_den, sin_plus, sin_minus, cos_plus, cos_minus, cos_up, cos_down, cos_den}
use Rattle.angles.proofs.Error.{fixed_le}
use Rattle.angles.proofs.Near.{near_product, loss, mh_under, plus_near, minus_near, square_le, power_le}
use Rattle.angles.proofs.CosNear.{cos_plus_near, cos_minus_near}
use Rattle.angles.specs.Grid.{odd_half, half}
use Rattle.angles.proofs.GridLaws.{half_near}
use Rattle.angles.specs.Arctangent.{atan_high, atan_top}
use Rattle.angles.proofs.TangentClimbs.{unit, left, right}

-- ---- numbers that have lost at most so many units: times a number, added, cut to fewer places

near_scaled : (s a b x e m : ℕ) → Near s a b x e → Near s (a * m) (b * m) x e
near_scaled s a b x e m h = (le_trans (le_of_eq (sym (mul_assoc x b m))) (le_trans (mul-le-mul_right m h.0) (le_of_eq (mul_assoc s a m))), le_trans (le_of_eq (sym (mul_assoc s a m))) (le_trans (mul-le-mul_right m h.1) (le_of_eq (mul_assoc (x + e) b m))))

near_sum : (s a a' u x x' e e' : ℕ) → Near s a u x e → Near s a' u x' e' → Near s (a + a') u (x + x') (e + e')
near_sum s a a' u x x' e e' h k = (
  le_trans (le_of_eq (add-mul x x' u)) (le_trans (add-le-add h.0 k.0) (le_of_eq (sym (mul-add s a a')))),
  le_trans (le_of_eq (mul-add s a a')) (le_trans (add-le-add h.1 k.1) (le_of_eq (sym (add-mul (x + e) (x' + e') u) ∙ ap (λ (w : ℕ). w * u) (swap x e x' e')))),
)
  where
    swap : (x e x' e' : ℕ) → x + e + (x' + e') ≡ x + x' + (e + e')
    swap x e x' e' = omega arith

scaled_down : (s a b x e q m : ℕ) → 0 < m → q * m ≤ x → x + e ≤ (q + 2) * m → Near (s * m) a b x e → Near s a b q 2
scaled_down s a b x e q m M L H h = (
  le_of_mul-le-mul_right {k = m} (le_trans (le_of_eq (last q b m)) (le_trans (mul-le-mul_right b L) (le_trans h.0 (le_of_eq (sym (last s a m)))))) M,
  le_of_mul-le-mul_right {k = m} (le_trans (le_of_eq (last s a m)) (le_trans h.1 (le_trans (mul-le-mul_right b H) (le_of_eq (sym (last (q + 2) b m)))))) M,
)
  where
    last : (x y z : ℕ) → x * y * z ≡ x * z * y
    last x y z = simp (mul_assoc, mul_comm, mul_left_comm)

cut_near : (a b x e : ℕ) → e ≤ 2 ^ 24 → Near (2 ^ 57) a b x e → Near (2 ^ 33) a b (x / 2 ^ 24) 2
cut_near a b x e E h = scaled_down (2 ^ 33) a b x e (x / 2 ^ 24) (2 ^ 24) (lit< tt) (below x) (above x e E) h
  where
    below : (x : ℕ) → x / 2 ^ 24 * 2 ^ 24 ≤ x
    below x = omega arith

    above : (x e : ℕ) → e ≤ 2 ^ 24 → x + e ≤ (x / 2 ^ 24 + 2) * 2 ^ 24
    above x e h = omega arith

-- ---- the evaluation of the two sides, for the argument x / y

-- the test's lower side without its margin
unfoldable pub sine_side : ℕ → ℕ → ℕ
sine_side t k = sin_plus (half k) / 2 ^ 24 + mh t (cos_minus (square (half k)) (power (half k)))

half_le : (k : ℕ) → k ≤ atan_top → half k ≤ 2 ^ 63
half_le k h = omega arith

-- a product of the argument and the cosine's terms, over the unit
near_cosine : (c x y z e d s : ℕ) → Near (2 ^ 33) (x * c) (y * d) z e → Near (2 ^ 33) (c * (s * x)) (s * (d * y)) z e
near_cosine c x y z e d s h = subst (λ (a : ℕ). Near (2 ^ 33) a (s * (d * y)) z e) (first x c s) (subst (λ (u : ℕ). Near (2 ^ 33) (x * c * s) u z e) (second y d s) (near_scaled (2 ^ 33) (x * c) (y * d) z e s h))
  where
    first : (x c s : ℕ) → x * c * s ≡ c * (s * x)
    first x c s = simp (mul_assoc, mul_comm, mul_left_comm)

    second : (y d s : ℕ) → y * d * s ≡ s * (d * y)
    second y d s = simp (mul_assoc, mul_comm, mul_left_comm)

module _ (k t x y : ℕ) (k-le : k ≤ atan_top) (t-le : t ≤ 2 ^ 63) (at : Near (2 ^ 40) x y t 1) where
  abbrev n : ℕ
  n = half k

  abbrev a : ℕ
  a = odd_half k

  n_le : n ≤ 2 ^ 63
  n_le = half_le k k-le

  taken_le : cos_minus (square n) (power n) ≤ 2 ^ 62
  unfolding cos_minus
  taken_le = mh_under (square n) (fixed d24 (2 ^ 63) cos_minus_terms (power n)) (2 ^ 62) (2 ^ 64) (2 ^ 62) (square_le n n_le) (le_trans (fixed_le d24 (2 ^ 63) cos_minus_terms (power n) (power_le n n_le) tt) (lit≤ tt)) (lit≤ tt)

  added_le : cos_plus (power n) ≤ 2 ^ 64 - 2 ^ 32
  unfolding cos_plus
  added_le = fixed_le d24 (2 ^ 57) cos_plus_terms (power n) (power_le n n_le) tt

  -- it loses at most 2 + 10 units of 2 ^ -33
  pub sine_side_near : Near (2 ^ 33) (left a x y) (unit y) (sine_side t k) 12
  unfolding left sine_side
  sine_side_near =
      near_sum (2 ^ 33) (sin_up a (2 ^ 23) * (cos_den (2 ^ 23) * y)) (cos_down a (2 ^ 23) * (sin_den (2 ^ 23) * x)) (unit y) (sin_plus n / 2 ^ 24) (mh t (cos_minus (square n) (power n))) 2 10
      (near_scaled (2 ^ 33) (sin_up a (2 ^ 23)) (sin_den (2 ^ 23)) (sin_plus n / 2 ^ 24) 2 (cos_den (2 ^ 23) * y) (cut_near (sin_up a (2 ^ 23)) (sin_den (2 ^ 23)) (sin_plus n) 28 (lit≤ tt) (plus_near a (2 ^ 23) n (lit< tt) n_le (half_near k))))
      (near_cosine (cos_down a (2 ^ 23)) x y (mh t (cos_minus (square n) (power n))) 10 (cos_den (2 ^ 23)) (sin_den (2 ^ 23))
      (near_product (2 ^ 40) x y t 1 (2 ^ 57) (cos_down a (2 ^ 23)) (cos_den (2 ^ 23)) (cos_minus (square n) (power n)) 17 (2 ^ 33) 10 refl (loss t 1 (cos_minus (square n) (power n)) 17 9 (small t (cos_minus (square n) (power n)) t-le taken_le)) at (cos_minus_near a (2 ^ 23) n (lit< tt) n_le (half_near k))))
    where
      small : (t c : ℕ) → t ≤ 2 ^ 63 → c ≤ 2 ^ 62 → t * 17 + 1 * c + 1 * 17 ≤ 9 * 2 ^ 64
      small t c h l = omega arith

  -- it loses at most 28 + 2
  pub cosine_side_near : Near (2 ^ 33) (right a x y) (unit y) (atan_high t k) 30
  unfolding right atan_high
  cosine_side_near =
      subst (λ (w : ℕ). Near (2 ^ 33) w (unit y) (mh t (cos_plus (power n)) + sin_minus n / 2 ^ 24) 30) (add_comm (cos_up a (2 ^ 23) * (sin_den (2 ^ 23) * x)) (sin_down a (2 ^ 23) * (cos_den (2 ^ 23) * y)))
      (near_sum (2 ^ 33) (cos_up a (2 ^ 23) * (sin_den (2 ^ 23) * x)) (sin_down a (2 ^ 23) * (cos_den (2 ^ 23) * y)) (unit y) (mh t (cos_plus (power n))) (sin_minus n / 2 ^ 24) 28 2
      (near_cosine (cos_up a (2 ^ 23)) x y (mh t (cos_plus (power n))) 28 (cos_den (2 ^ 23)) (sin_den (2 ^ 23))
      (near_product (2 ^ 40) x y t 1 (2 ^ 57) (cos_up a (2 ^ 23)) (cos_den (2 ^ 23)) (cos_plus (power n)) 52 (2 ^ 33) 28 refl (loss t 1 (cos_plus (power n)) 52 27 (small t (cos_plus (power n)) t-le added_le)) at (cos_plus_near a (2 ^ 23) n (lit< tt) n_le (half_near k))))
      (near_scaled (2 ^ 33) (sin_down a (2 ^ 23)) (sin_den (2 ^ 23)) (sin_minus n / 2 ^ 24) 2 (cos_den (2 ^ 23) * y) (cut_near (sin_down a (2 ^ 23)) (sin_den (2 ^ 23)) (sin_minus n) 40 (lit≤ tt) (minus_near a (2 ^ 23) n (lit< tt) n_le (half_near k)))))
    where
      small : (t c : ℕ) → t ≤ 2 ^ 63 → c ≤ 2 ^ 64 - 2 ^ 32 → t * 52 + 1 * c + 1 * 52 ≤ 27 * 2 ^ 64
      small t c h l = omega arith
