-- The evaluation of the cosine is within 52 units of the added terms and 17 of those taken away, at every angle up to 4. Assumes nothing.
use Rattle.std.proofs.Common.{◌≡◌, ℕ, ◌+◌, ◌-◌, ◌*◌, ◌^◌, ◌<◌, ◌≤◌, sym, refl, subst, le_trans, le_of_eq, le_refl, add-le-add, mul-le-mul_right, mul_assoc, mul_comm, pow-suc, mul_left_comm, arith, lit<, lit≤}
use Rattle.angles.specs.Series.{mh, sum_of, fixed, Near, fourth, square, power, d24, cos_plus_terms, cos_minus_terms, cos_plus, cos_minus, cos_up, cos_down}
use Rattle.angles.proofs.Error.{fixed_le, mh_le, rest}
use Rattle.angles.proofs.Near.{near_product, loss, sums, square_near, square_le, power_le}

module _ (a b n : ℕ) (b-pos : 0 < b) (n_le : n ≤ 2 ^ 63) (at : Near (2 ^ 61) a b n 1) where
  pub cos_plus_near : Near (2 ^ 57) (cos_up a b) (d24 * fourth b ^ 6) (cos_plus (power n)) 52
  unfolding cos_up cos_plus
  cos_plus_near = sums a b n b-pos n_le at d24 (2 ^ 57) cos_plus_terms (lit< tt) tt

  pub cos_minus_near : Near (2 ^ 57) (cos_down a b) (d24 * fourth b ^ 6) (cos_minus (square n) (power n)) 17
  unfolding cos_down cos_minus
  cos_minus_near =
      let y = fourth a in
      let m = fourth b in
      let z = square n in
      let g = fixed d24 (2 ^ 63) cos_minus_terms (power n) in
      subst (λ (k : ℕ). Near (2 ^ 57) (a * a * sum_of cos_minus_terms y m * (b * b)) (d24 * k) (mh z g) 17) (sym (pow-suc m 5))
      (widened (2 ^ 57) (a * a * sum_of cos_minus_terms y m) b d24 (m ^ 5) (mh z g)
      (near_product (2 ^ 58) (a * a) (b * b) z 3 (2 ^ 63) (sum_of cos_minus_terms y m) (d24 * m ^ 5) g 52 (2 ^ 57) 17 refl
      (loss z 3 g 52 16 (small z g (square_le n n_le) (fixed_le d24 (2 ^ 63) cos_minus_terms (power n) (power_le n n_le) tt)))
      (square_near a b n b-pos n_le at) (sums a b n b-pos n_le at d24 (2 ^ 63) cos_minus_terms (lit< tt) tt)))
    where
      small : (x g : ℕ) → x ≤ 2 ^ 62 → g ≤ 2 ^ 64 - 2 ^ 32 → x * 52 + 3 * g + 3 * 52 ≤ 16 * 2 ^ 64
      small x g h k = omega arith

      widened : (s p b d k x : ℕ) → Near s p (b * b * (d * k)) x 17 → Near s (p * (b * b)) (d * (k * fourth b)) x 17
      widened s p b d k x h =
          let e : (w : ℕ) → w * (d * (k * fourth b)) ≡ w * (b * b * (d * k)) * (b * b) = λ (w : ℕ). simp (mul_assoc, mul_comm, mul_left_comm) in
          let f : s * (p * (b * b)) ≡ s * p * (b * b) = sym (mul_assoc s p (b * b)) in
          (le_trans (le_of_eq (e x)) (le_trans (mul-le-mul_right (b * b) h.0) (le_of_eq (sym f))), le_trans (le_of_eq f) (le_trans (mul-le-mul_right (b * b) h.1) (le_of_eq (sym (e (x + 17))))))

-- how large the evaluation is
pub cos_plus_le : (v : ℕ) → v ≤ 2 ^ 63 → cos_plus v ≤ 2 ^ 57 + 2 ^ 63
unfolding cos_plus fixed
cos_plus_le v h = add-le-add (le_refl (2 ^ 57)) (mh_le v (fixed d24 (512 * 2 ^ 57) (rest cos_plus_terms) v) h (le_trans (fixed_le d24 (512 * 2 ^ 57) (rest cos_plus_terms) v h tt) (lit≤ tt)))

pub cos_minus_le : (z v : ℕ) → z ≤ 2 ^ 62 → v ≤ 2 ^ 63 → cos_minus z v ≤ 2 ^ 63
unfolding cos_minus
cos_minus_le z v h k = mh_le z (fixed d24 (2 ^ 63) cos_minus_terms v) (le_trans h (lit≤ tt)) (le_trans (fixed_le d24 (2 ^ 63) cos_minus_terms v k tt) (lit≤ tt))
