-- The whole number nearest to a root, by squares. Assumes nothing.
use mathlib.Core.Path.{◌≡◌, refl, ap, subst}
use mathlib.Core.Bool.{Bool, true, false, cond}
use Prim.Native.Nat.{ℕ, zero, suc, ◌+◌, ◌-◌, ◌*◌, ◌/◌, ◌^◌, ◌≤◌, ◌<◌}
use native.Mathlib.Nat.{le_refl, le_antisymm, lt_of_lt_of_le, mul-le-mul, mul-le-mul_left, mul-add, add-mul, mul-one, one-mul, zero-mul, mul_assoc, mul_left_comm, add_assoc, add_comm, add_left_comm, div-lt_iff_lt-mul, pow-suc}
use native.Mathlib.Decide.{dec_le}
use native.Mathlib.Omega.{arith}
use borrow.Author.Tests.{leb-true, leb-false, ltb-true, ltb-false}
use lib.Dec.{leb, ltb, lit<}
use Rattle.root.specs.Root.{one_more, whole_root, nearest_root}

-- r is the whole number nearest to the root of w: w lies between (r - 1/2)² and (r + 1/2)². Both are odd quarters, so no whole w lies on either.
pub record NearestRoot (w r : ℕ) : Type 0 where
  pub not_below : r * r < w + r
  pub not_above : w ≤ r * r + r

pub square_next : (r : ℕ) → (r + 1) * (r + 1) ≡ r * r + 2 * r + 1
square_next r = simp (mul-add, add-mul, mul-one, one-mul, add_assoc, add_comm, add_left_comm) (omega arith)

-- a larger number's square, less itself, is no smaller than the smaller's and itself
grows : (r s : ℕ) → r + 1 ≤ s → r * r + r + s ≤ s * s
grows r s h =
    let k : (r + 1) * s ≤ s * s = mul-le-mul h (le_refl s) in
    let e : (r + 1) * s ≡ r * s + s = simp (add-mul, one-mul) in
    let l : r * (r + 1) ≤ r * s = mul-le-mul (le_refl r) h in
    let f : r * (r + 1) ≡ r * r + r = simp (mul-add, mul-one) in
    omega (arith, k, e, l, f)

not_above_other : (w r s : ℕ) → NearestRoot w r → NearestRoot w s → s ≤ r
not_above_other w r s p q = go (dec_le (r + 1) s)
  where
    clash : (a b : ℕ) → w ≤ a → a + s ≤ b → b < w + s → ⊥
    clash a b h k l = omega arith

    flip : (r + 1 ≤ s → ⊥) → s ≤ r
    flip f = omega arith

    go : Dec (r + 1 ≤ s) → s ≤ r
    go (yes h) = absurd (clash (r * r + r) (s * s) p.not_above (grows r s h) q.not_below)
    go (no f) = flip f

-- there is only one
pub nearest_unique : (w r s : ℕ) → NearestRoot w r → NearestRoot w s → r ≡ s
nearest_unique w r s p q = le_antisymm (not_above_other w s r q p) (not_above_other w r s p q)

-- r is the whole part of the root of w
record WholeRoot (w r : ℕ) : Type 0 where
  inside : r * r ≤ w
  next : w < (r + 1) * (r + 1)

-- a quarter's root, doubled, is the root or one short of it
one_more_lem : (w r : ℕ) → WholeRoot (w / 4) r → WholeRoot w (one_more w (2 * r))
unfolding one_more
one_more_lem w r h = go (leb ((2 * r + 1) * (2 * r + 1)) w) refl
  where
    quarter : (a : ℕ) → a ≤ w / 4 → 4 * a ≤ w
    quarter a k = omega arith

    over : (a : ℕ) → w / 4 < a → w < 4 * a
    over a k = omega arith

    square : (a : ℕ) → 4 * (a * a) ≡ 2 * a * (2 * a)
    square a = simp (mul_assoc, mul_left_comm) (omega arith)

    go : (b : Bool) → leb ((2 * r + 1) * (2 * r + 1)) w ≡ b → WholeRoot w (cond b (2 * r + 1) (2 * r))
    go true e = record { inside = leb-true ((2 * r + 1) * (2 * r + 1)) w e; next = lt_of_lt_of_le (over ((r + 1) * (r + 1)) h.next) (omega (arith, square (r + 1), ap (λ (x : ℕ). x * x) (twice r))) }
      where
        twice : (r : ℕ) → 2 * (r + 1) ≡ 2 * r + 1 + 1
        twice r = omega arith
    go false e = record { inside = omega (arith, quarter (r * r) h.inside, square r); next = leb-false ((2 * r + 1) * (2 * r + 1)) w e }

whole_root_lem : (d w : ℕ) → w < 4 ^ d → WholeRoot w (whole_root d w)
unfolding whole_root
whole_root_lem zero w h = record { inside = omega arith; next = h }
whole_root_lem (suc d) w h = one_more_lem w (whole_root d (w / 4)) (whole_root_lem d (w / 4) ((div-lt_iff_lt-mul {k = 4} (lit< tt)).1 (subst (λ (x : ℕ). w < x) (pow-suc 4 d) h)))

-- the definition's number is the nearest
pub nearest_root_lem : (w : ℕ) → 0 < w → w < 4 ^ 24 → NearestRoot w (nearest_root w)
unfolding nearest_root
nearest_root_lem w p h = choose (whole_root 24 w) (whole_root_lem 24 w h)
  where
    choose : (r : ℕ) → WholeRoot w r → NearestRoot w (cond (ltb (r * r + r) w) (r + 1) r)
    choose r k = go (ltb (r * r + r) w) refl
      where
        positive : (r : ℕ) → r * r ≤ w → r * r < w + r
        positive zero k = omega (arith, zero-mul zero)
        positive (suc r) k = omega arith

        go : (b : Bool) → ltb (r * r + r) w ≡ b → NearestRoot w (cond b (r + 1) r)
        go true e = let f = ltb-true (r * r + r) w e in record { not_below = omega (arith, square_next r); not_above = omega (arith, square_next r, k.next) }
        go false e = record { not_below = positive r k.inside; not_above = ltb-false (r * r + r) w e }

-- of a w of 47 or 48 digits r has 24, or is 2 ^ 24
pub root_range : (w r : ℕ) → 2 ^ 46 ≤ w → w < 2 ^ 48 → NearestRoot w r → (2 ^ 23 ≤ r) × (r ≤ 2 ^ 24)
root_range w r l h p = (reaches (dec_le (2 ^ 23) r), stays (dec_le r (2 ^ 24)))
  where
    reaches : Dec (2 ^ 23 ≤ r) → 2 ^ 23 ≤ r
    reaches (yes g) = g
    reaches (no f) = absurd (clash (r * r) (omega arith) p.not_above (mul-le-mul below below))
      where
        below : r ≤ 2 ^ 23 - 1
        below = omega arith

        clash : (a : ℕ) → r ≤ 2 ^ 23 - 1 → w ≤ a + r → a ≤ (2 ^ 23 - 1) * (2 ^ 23 - 1) → ⊥
        clash a g e m = omega arith

    stays : Dec (r ≤ 2 ^ 24) → r ≤ 2 ^ 24
    stays (yes g) = g
    stays (no f) = absurd (clash (r * r) (omega arith) p.not_below (mul-le-mul_left r above))
      where
        above : 2 ^ 24 + 1 ≤ r
        above = omega arith

        clash : (a : ℕ) → 2 ^ 24 + 1 ≤ r → a < w + r → r * (2 ^ 24 + 1) ≤ a → ⊥
        clash a g e m = omega arith
