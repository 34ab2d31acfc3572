-- The midpoints between q * 2 ^ k and other counts of smallest values, squared, against w * 4 ^ k, where q is the whole number nearest to the root of w. Assumes nothing.
use mathlib.Core.Path.{◌≡◌, sym, ap, ◌∙◌, subst}
use mathlib.Core.Logic.{◌⊎◌, inl, inr}
use Prim.Native.Nat.{ℕ, ◌+◌, ◌-◌, ◌*◌, ◌^◌, ◌≤◌, ◌<◌, zero-le}
use native.Mathlib.Nat.{lt_irrefl, le_of_lt, le_trans, lt_of_le_of_lt, mul-one, one-mul, mul-add, add-mul, mul_assoc, mul_left_comm, mul-mul-mul_comm, add_assoc, le_refl, add-le-add, mul-le-mul, mul-le-mul_left, mul-lt-mul_of_pos_right, lt_of_mul-lt-mul_right, lt_of_lt_of_le, lt_of_not-le, mul-le-mul_right, mul-pos, pow-suc, pow-zero}
use native.Mathlib.Decide.{dec_le}
use native.Mathlib.Omega.{arith}
use lib.Pow.{pow-add, pow_mono, pow_pos, shl_lt}
use Rattle.root.proofs.NearestRootLaws.{NearestRoot, square_next, root_range}

pub square : (a : ℕ) → a ^ 2 ≡ a * a
square a = pow-suc a 1 ∙ ap (λ (x : ℕ). x * a) (pow-suc a 0 ∙ ap (λ (x : ℕ). x * a) (pow-zero a) ∙ one-mul a)

square_lt : (a b : ℕ) → a < b → a * a < b * b
square_lt a b h = lt_of_le_of_lt (mul-le-mul_left a (le_of_lt h)) (mul-lt-mul_of_pos_right h (lt_of_le_of_lt zero-le h))

twice : (a : ℕ) → (a + a) * (a + a) ≡ 4 * (a * a)
twice a = simp (mul-add, add-mul, add_assoc) (omega arith)

middle : (c : ℕ) → (2 * c + 1) * (2 * c + 1) ≡ 4 * (c * c + c) + 1
middle c = simp (mul-add, add-mul, mul-one, one-mul, mul_assoc, mul_left_comm, add_assoc) (omega arith)

-- an f32's count, m * 2 ^ i, is a multiple of 2 ^ k, or below 2 ^ 23 * 2 ^ k
grid : (m i k : ℕ) → m < 2 ^ 24 → ((c : ℕ) × (m * 2 ^ i ≡ c * 2 ^ k)) ⊎ (m * 2 ^ i < 2 ^ 23 * 2 ^ k)
grid m i k h = go (dec_le k i)
  where
    go : Dec (k ≤ i) → ((c : ℕ) × (m * 2 ^ i ≡ c * 2 ^ k)) ⊎ (m * 2 ^ i < 2 ^ 23 * 2 ^ k)
    go (yes l) = inl (m * 2 ^ (i - k), ap (λ (x : ℕ). m * x) (ap (λ (x : ℕ). 2 ^ x) whole ∙ pow-add 2 (i - k) k) ∙ sym (mul_assoc m (2 ^ (i - k)) (2 ^ k)))
      where
        whole : i ≡ i - k + k
        whole = omega arith
    go (no f) = inr (lt_of_lt_of_le (shl_lt 24 i h) (subst (λ (x : ℕ). 2 ^ (24 + i) ≤ x) (pow-add 2 23 k) (pow_mono below)))
      where
        below : 24 + i ≤ 23 + k
        below = omega arith

-- a² against 4 * w, with a scaled by p and w by p²
module _ (w p : ℕ) (P : 0 < p) where
  scaled_square : (a : ℕ) → a * p * (a * p) ≡ a * a * (p * p)
  scaled_square a = mul-mul-mul_comm a p a p

  square_under : (t a : ℕ) → t ≤ a * p → a * a < 4 * w → t * t < 4 * (w * (p * p))
  square_under t a h l =
      lt_of_le_of_lt (mul-le-mul h h)
      (subst (λ (x : ℕ). x < 4 * (w * (p * p))) (sym (scaled_square a))
      (subst (λ (x : ℕ). a * a * (p * p) < x) (mul_assoc 4 w (p * p)) (mul-lt-mul_of_pos_right l (mul-pos P P))))

  square_over : (t a : ℕ) → a * p ≤ t → 4 * w < a * a → 4 * (w * (p * p)) < t * t
  square_over t a h l =
      lt_of_lt_of_le
      (subst (λ (x : ℕ). 4 * (w * (p * p)) < x) (sym (scaled_square a))
      (subst (λ (x : ℕ). x < a * a * (p * p)) (mul_assoc 4 w (p * p)) (mul-lt-mul_of_pos_right l (mul-pos P P))))
      (mul-le-mul h h)

  doubled : (q : ℕ) → (q * p + q * p) * (q * p + q * p) ≡ 4 * (q * q * (p * p))
  doubled q = twice (q * p) ∙ ap (λ (x : ℕ). 4 * x) (scaled_square q)

-- the midpoint of q * p and an f32's count below it, and of q * p and one above it
module _ (k w q : ℕ) (least : 2 ^ 46 ≤ w) (most : w < 2 ^ 48) (near : NearestRoot w q) where
  abbrev p : ℕ
  p = 2 ^ k

  P : 0 < p
  P = pow_pos k

  pub root_over : (m i : ℕ) → m < 2 ^ 24 → m * 2 ^ i < q * p → (m * 2 ^ i + q * p) * (m * 2 ^ i + q * p) < 4 * (w * (p * p))
  root_over m i h l = go (dec_le (q * q) w)
    where
      u : ℕ
      u = m * 2 ^ i

      more : (a b : ℕ) → a < b → a + b < b + b
      more a b h = omega arith

      go : Dec (q * q ≤ w) → (u + q * p) * (u + q * p) < 4 * (w * (p * p))
      go (yes g) = lt_of_lt_of_le (square_lt (u + q * p) (q * p + q * p) (more u (q * p) l)) (subst (λ (x : ℕ). x ≤ 4 * (w * (p * p))) (sym (doubled w p P q)) (mul-le-mul_left 4 (mul-le-mul_right (p * p) g)))
      go (no f) = square_under w p P (u + q * p) (2 * c + 1) below (omega (arith, middle c, next, one_less, near.not_below))
        where
          c : ℕ
          c = q - 1

          large : 2 ^ 23 < q
          large = lt_of_not-le (λ (g : q ≤ 2 ^ 23). f (le_trans (mul-le-mul g g) least))

          one_less : q ≡ c + 1
          one_less = omega (arith, large)

          next : q * q ≡ c * c + 2 * c + 1
          next = ap (λ (x : ℕ). x * x) one_less ∙ square_next c

          step : ((d : ℕ) × (u ≡ d * p)) ⊎ (u < 2 ^ 23 * p) → u ≤ c * p
          step (inl d) = subst (λ (x : ℕ). x ≤ c * p) (sym d.1) (mul-le-mul_right p (less d.0 (lt_of_mul-lt-mul_right p (subst (λ (x : ℕ). x < q * p) d.1 l))))
            where
              less : (d : ℕ) → d < q → d ≤ c
              less d g = omega (arith, one_less)
          step (inr g) = le_trans (le_of_lt g) (mul-le-mul_right p (omega (arith, large, one_less)))

          sum : c * p + q * p ≡ (2 * c + 1) * p
          sum = sym (add-mul c q p) ∙ ap (λ (x : ℕ). x * p) (omega (arith, one_less))

          below : u + q * p ≤ (2 * c + 1) * p
          below = subst (λ (x : ℕ). u + q * p ≤ x) sum (add-le-add (step (grid m i k h)) (le_refl (q * p)))

  pub root_under : (m i : ℕ) → m < 2 ^ 24 → q * p < m * 2 ^ i → 4 * (w * (p * p)) < (m * 2 ^ i + q * p) * (m * 2 ^ i + q * p)
  root_under m i h l = square_over w p P (u + q * p) (2 * q + 1) above (omega (arith, middle q, near.not_above))
    where
      u : ℕ
      u = m * 2 ^ i

      step : ((d : ℕ) × (u ≡ d * p)) ⊎ (u < 2 ^ 23 * p) → (q + 1) * p ≤ u
      step (inl d) = subst (λ (x : ℕ). (q + 1) * p ≤ x) (sym d.1) (mul-le-mul_right p (more d.0 (lt_of_mul-lt-mul_right p (subst (λ (x : ℕ). q * p < x) d.1 l))))
        where
          more : (d : ℕ) → q < d → q + 1 ≤ d
          more d g = omega arith
      step (inr g) = absurd (lt_irrefl u (lt_of_lt_of_le g (le_trans (mul-le-mul_right p (root_range w q least most near).0) (le_of_lt l))))

      sum : (q + 1) * p + q * p ≡ (2 * q + 1) * p
      sum = sym (add-mul (q + 1) q p) ∙ ap (λ (x : ℕ). x * p) (omega arith)

      above : (2 * q + 1) * p ≤ u + q * p
      above = subst (λ (x : ℕ). x ≤ u + q * p) sum (add-le-add (step (grid m i k h)) (le_refl (q * p)))
