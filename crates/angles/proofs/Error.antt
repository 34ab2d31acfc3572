-- How far the fixed-point evaluation is from the exact sum: below it, by at most 2 * e + 4 units, where v is within e of 2 ^ 64 * y / (512 * m).
-- Assumes nothing.
use Rattle.std.proofs.Common.{◌≡◌, ℕ, ◌+◌, ◌-◌, ◌*◌, ◌/◌, ◌^◌, ◌<◌, ◌≤◌, Bool, true, ◌&&◌, T, leb, List, [], ◌∷◌, length, sym, subst, zero-le, le_trans, le_of_eq, add-zero, le_of_lt, add_assoc, add-le-add, mul-le-mul_right, mul_assoc, mul_comm, add-mul, mul-le-mul, add_comm, mul-le-mul_left, pow-suc, mul-zero, zero-mul, mul-one, mul-add, div-mul-le_self, le_of_mul-le-mul_right, mul_left_comm, arith, lit<, lit≤, leb→le, pow_pos}
use native.Mathlib.Nat.{add_left_comm, lt-mul-div-succ, pow-zero}
use lib.Ieee.Fits.{and_l, and_r}
use Rattle.angles.specs.Series.{mh, sum_of, fixed, Near}

-- ---- one step, on plain numbers: u is 512, M is 2 ^ 64, L is m ^ k, X the exact sum of the later terms, h its evaluation, g the product's upper half

lower_part : (D F h v m y L X M g u : ℕ) → h * (D * L) ≤ (u * F) * X → v * (u * m) ≤ y * M → g * M ≤ v * h → 0 < u * M → g * (D * (L * m)) ≤ F * (y * X)
lower_part D F h v m y L X M g u H1 H2 H3 P =
    le_of_mul-le-mul_right {k = u * M}
    (le_trans (le_of_eq e1) (le_trans (mul-le-mul_right (D * L * (u * m)) H3) (le_trans (le_of_eq e2) (le_trans (mul-le-mul H2 H1) (le_of_eq e3)))))
    P
  where
    e1 : g * (D * (L * m)) * (u * M) ≡ g * M * (D * L * (u * m))
    e1 = simp (mul_assoc, mul_comm, mul_left_comm)

    e2 : v * h * (D * L * (u * m)) ≡ v * (u * m) * (h * (D * L))
    e2 = simp (mul_assoc, mul_comm, mul_left_comm)

    e3 : y * M * (u * F * X) ≡ F * (y * X) * (u * M)
    e3 = simp (mul_assoc, mul_comm, mul_left_comm)

-- w is v and what it lost, k is h and what it lost, t the product's upper half and what that lost
upper_part : (D F k w m y L X M t u : ℕ) → (u * F) * X ≤ k * (D * L) → y * M ≤ w * (u * m) → w * k ≤ t * M → 0 < u * M → F * (y * X) ≤ t * (D * (L * m))
upper_part D F k w m y L X M t u H1 H2 H3 P =
    le_of_mul-le-mul_right {k = u * M}
    (le_trans (le_of_eq (sym e3)) (le_trans (mul-le-mul H2 H1) (le_trans (le_of_eq (sym e2)) (le_trans (mul-le-mul_right (D * L * (u * m)) H3) (le_of_eq (sym e1))))))
    P
  where
    e1 : t * (D * (L * m)) * (u * M) ≡ t * M * (D * L * (u * m))
    e1 = simp (mul_assoc, mul_comm, mul_left_comm)

    e2 : w * k * (D * L * (u * m)) ≡ w * (u * m) * (k * (D * L))
    e2 = simp (mul_assoc, mul_comm, mul_left_comm)

    e3 : y * M * (u * F * X) ≡ F * (y * X) * (u * M)
    e3 = simp (mul_assoc, mul_comm, mul_left_comm)

lower_step : (q c D F h v m y L X M g u : ℕ) → q * D ≤ F * c → h * (D * L) ≤ (u * F) * X → v * (u * m) ≤ y * M → g * M ≤ v * h → 0 < u * M
    → (q + g) * (D * (L * m)) ≤ F * (c * (L * m) + y * X)
lower_step q c D F h v m y L X M g u Q H1 H2 H3 P =
    le_trans (le_of_eq (add-mul q g (D * (L * m))))
    (le_trans (add-le-add (le_trans (le_of_eq (sym (mul_assoc q D (L * m)))) (le_trans (mul-le-mul_right (L * m) Q) (le_of_eq (mul_assoc F c (L * m))))) (lower_part D F h v m y L X M g u H1 H2 H3 P))
    (le_of_eq (sym (mul-add F (c * (L * m)) (y * X)))))

upper_step : (q c D F k w m y L X M t u : ℕ) → F * c ≤ q * D → (u * F) * X ≤ k * (D * L) → y * M ≤ w * (u * m) → w * k ≤ t * M → 0 < u * M
    → F * (c * (L * m) + y * X) ≤ (q + t) * (D * (L * m))
upper_step q c D F k w m y L X M t u Q H1 H2 H3 P =
    le_trans (le_of_eq (mul-add F (c * (L * m)) (y * X)))
    (le_trans (add-le-add (le_trans (le_of_eq (sym (mul_assoc F c (L * m)))) (le_trans (mul-le-mul_right (L * m) Q) (le_of_eq (mul_assoc q D (L * m))))) (upper_part D F k w m y L X M t u H1 H2 H3 P))
    (le_of_eq (sym (add-mul q t (D * (L * m))))))

-- ---- the product's loss: (v + e) * (h + E) with E = 2 * e + 4 is at most (g + 2 * e + 3) * 2 ^ 64, for v at most 2 ^ 63 and h + E at most 2 ^ 64
product_loss : (v h g e : ℕ) → v ≤ 2 ^ 63 → h + (2 * e + 4) ≤ 2 ^ 64 → v * h ≤ (g + 1) * 2 ^ 64 → (v + e) * (h + (2 * e + 4)) ≤ (g + (2 * e + 3)) * 2 ^ 64
product_loss v h g e A B C =
    let E = 2 * e + 4 in
    let a : (v + e) * (h + E) ≡ v * h + v * E + e * (h + E) = simp (mul-add, add-mul, add_assoc, add_comm, add_left_comm) in
    let b : v * E ≤ 2 ^ 63 * E = mul-le-mul_right E A in
    let c : e * (h + E) ≤ e * 2 ^ 64 = mul-le-mul_left e B in
    omega (arith, a, b, c, C)

-- ---- the whole sum

-- no coefficient reaches 2 ^ 63 less 2 ^ 32
abbrev pub modest : ℕ → ℕ → List ℕ → Bool
modest d f [] = true
modest d f (c ∷ cs) = leb (f * c / d) (2 ^ 63 - 2 ^ 32) && modest d (512 * f) cs

-- a product by v, which is at most 2 ^ 63, of what is below 2 ^ 64 is at most 2 ^ 63
pub mh_le : (v h : ℕ) → v ≤ 2 ^ 63 → h ≤ 2 ^ 64 → mh v h ≤ 2 ^ 63
mh_le v h A B = le_of_mul-le-mul_right {k = 2 ^ 64} (le_trans (div-mul-le_self (v * h) (2 ^ 64)) (mul-le-mul A B)) (pow_pos 64)

pub fixed_le : (d f : ℕ) (cs : List ℕ) (v : ℕ) → v ≤ 2 ^ 63 → T (modest d f cs) → fixed d f cs v ≤ 2 ^ 64 - 2 ^ 32
unfolding fixed
fixed_le d f [] v A t = zero-le
fixed_le d f (c ∷ []) v A t = le_trans (leb→le (f * c / d) (2 ^ 63 - 2 ^ 32) (and_l (leb (f * c / d) (2 ^ 63 - 2 ^ 32)) true t)) (lit≤ tt)
fixed_le d f (c ∷ (c' ∷ cs)) v A t =
    let q = leb→le (f * c / d) (2 ^ 63 - 2 ^ 32) (and_l (leb (f * c / d) (2 ^ 63 - 2 ^ 32)) (modest d (512 * f) (c' ∷ cs)) t) in
    let r = mh_le v (fixed d (512 * f) (c' ∷ cs) v) A (le_trans (fixed_le d (512 * f) (c' ∷ cs) v A (and_r (leb (f * c / d) (2 ^ 63 - 2 ^ 32)) (modest d (512 * f) (c' ∷ cs)) t)) (lit≤ tt)) in
    add-le-add q r

-- a number is at most one more than its quotient, times the divisor
pub over : (a b : ℕ) → 0 < b → a ≤ (a / b + 1) * b
over a b B = le_trans (le_of_lt (lt-mul-div-succ a B)) (le_of_eq (mul_comm b (a / b + 1)))

more : (q e : ℕ) → q + 1 ≤ q + (2 * e + 4)
more q e = omega arith

regroup : (q g e : ℕ) → (q + 1) + (g + (2 * e + 3)) ≡ q + g + (2 * e + 4)
regroup q g e = omega arith

fits_under : (h e : ℕ) → 2 * e + 4 ≤ 2 ^ 32 → h ≤ 2 ^ 64 - 2 ^ 32 → h + (2 * e + 4) ≤ 2 ^ 64
fits_under h e s k = omega arith

-- a list less its first
abbrev pub rest : List ℕ → List ℕ
rest [] = []
rest (c ∷ cs) = cs

abbrev pub degree : List ℕ → ℕ
degree [] = 0
degree (c ∷ cs) = length cs

module _ (d y m v e : ℕ) (D : 0 < d) (m-pos : 0 < m) (A : v ≤ 2 ^ 63) (small : 2 * e + 4 ≤ 2 ^ 32) (v_below : v * (512 * m) ≤ y * 2 ^ 64) (v_above : y * 2 ^ 64 ≤ (v + e) * (512 * m)) where
  lower : (f c : ℕ) (cs : List ℕ) → fixed d f (c ∷ cs) v * (d * m ^ length cs) ≤ f * sum_of (c ∷ cs) y m
  unfolding fixed sum_of
  lower f c [] = simp (pow-zero, mul-one, mul-zero, add-zero) (div-mul-le_self (f * c) d)
  lower f c (c' ∷ cs) =
      let h = fixed d (512 * f) (c' ∷ cs) v in
      let n = length cs in
      subst (λ (k : ℕ). (f * c / d + mh v h) * (d * k) ≤ f * (c * k + y * sum_of (c' ∷ cs) y m)) (sym (pow-suc m n))
      (lower_step (f * c / d) c d f h v m y (m ^ n) (sum_of (c' ∷ cs) y m) (2 ^ 64) (mh v h) 512
      (div-mul-le_self (f * c) d) (lower (512 * f) c' cs) v_below (div-mul-le_self (v * h) (2 ^ 64)) (lit< tt))

  upper : (f c : ℕ) (cs : List ℕ) → T (modest d f (c ∷ cs)) → f * sum_of (c ∷ cs) y m ≤ (fixed d f (c ∷ cs) v + (2 * e + 4)) * (d * m ^ length cs)
  unfolding fixed sum_of
  upper f c [] t =
      simp (pow-zero, mul-one, mul-zero, add-zero)
      (le_trans (over (f * c) d D) (mul-le-mul_right d (more (f * c / d) e)))
  upper f c (c' ∷ cs) t =
      let h = fixed d (512 * f) (c' ∷ cs) v in
      let n = length cs in
      let t' = and_r (leb (f * c / d) (2 ^ 63 - 2 ^ 32)) (modest d (512 * f) (c' ∷ cs)) t in
      let fits = fits_under h e small (fixed_le d (512 * f) (c' ∷ cs) v A t') in
      subst (λ (k : ℕ). f * (c * k + y * sum_of (c' ∷ cs) y m) ≤ (f * c / d + mh v h + (2 * e + 4)) * (d * k)) (sym (pow-suc m n))
      (subst (λ (s : ℕ). f * (c * (m ^ n * m) + y * sum_of (c' ∷ cs) y m) ≤ s * (d * (m ^ n * m))) (regroup (f * c / d) (mh v h) e)
      (upper_step (f * c / d + 1) c d f (h + (2 * e + 4)) (v + e) m y (m ^ n) (sum_of (c' ∷ cs) y m) (2 ^ 64) (mh v h + (2 * e + 3)) 512
      (over (f * c) d D) (upper (512 * f) c' cs t') v_above (product_loss v h (mh v h) e A fits (over (v * h) (2 ^ 64) (lit< tt))) (lit< tt)))

  -- both, of a whole list
  pub near_sum : (f : ℕ) (cs : List ℕ) → T (modest d f cs) → Near f (sum_of cs y m) (d * m ^ degree cs) (fixed d f cs v) (2 * e + 4)
  unfolding fixed sum_of
  near_sum f [] t = (le_trans (le_of_eq (zero-mul (d * m ^ 0))) zero-le, le_trans (le_of_eq (mul-zero f)) zero-le)
  near_sum f (c ∷ cs) t = (lower f c cs, upper f c cs t)
