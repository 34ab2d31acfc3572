-- Which moved angles are kept, and every f32 by its kind: NaN, an infinity, 0 of either sign, a number. Assumes nothing.
use Rattle.std.proofs.Common.{◌≡◌, ℕ, zero, suc, ◌+◌, ◌-◌, ◌*◌, ◌^◌, ◌<◌, ◌≤◌, Bool, true, false, cond, not, leb, ℤ, sym, refl, ap, ◌∙◌, subst, le_trans, le_of_eq, lt_of_lt_of_le, lt_of_le_of_lt, add-zero, lt_irrefl, one-mul, zero-mul, arith, le-leb, leb-true}
use borrow.Author.Tests.{lt-leb}
use lib.Ieee.{Float, nan, inf, fin, up, down, lt, le, eq, neg}
use Rattle.angles.specs.Series.{cos_down}
use Rattle.angles.proofs.Steps.{cos_positive_half, cos_past}
use Rattle.angles.specs.Grid.{zero32, one32, within}
use Rattle.angles.proofs.GridLaws.{sign_is, sign_0}
use Rattle.angles.proofs.Argument.{within_is}
use Rattle.angles.specs.Bound.{Angle, towards, AtMost, AtLeast, CosinePositive, Answer, UpToOne}

-- 0 has either sign
pub at_most_0 : (p n d y : ℕ) → AtMost p n d false 0 y → AtMost p n d true 0 y
at_most_0 p n d y h = le_trans (le_of_eq (ap (λ (z : ℕ). p * y + z) (zero-mul d) ∙ add-zero (p * y))) (le_trans h (le_of_eq (ap (λ (z : ℕ). n * y + z) (zero-mul d) ∙ add-zero (n * y))))

pub at_least_0 : (p n d y : ℕ) → AtLeast p n d false 0 y → AtLeast p n d true 0 y
at_least_0 p n d y h = shift (0 * d) (n * y) (p * y) h
  where
    shift : (z a b : ℕ) → z + a ≤ b → a ≤ b + z
    shift z a b h = omega arith

-- ---- up to the quarter turn, moved by at most 4 steps

-- towards 0 an angle is kept
pub kept_towards : (w k : ℕ) → 1 ≤ w → w ≤ 4 → k ≤ 6588397 → (s : Bool) → CosinePositive (towards w (s, k))
kept_towards w k w1 w4 top s = go (leb w k) refl
  where
    one : (w k : ℕ) → 1 ≤ w → w ≤ k → k ≤ 6588397 → 2 * (k - w) < 13176793
    one w k h l t = omega arith

    two : (w k : ℕ) → w ≤ 4 → 2 * (w - k) < 13176793
    two w k h = omega arith

    go : (c : Bool) → leb w k ≡ c → CosinePositive (cond c (s, k - w) (not s, w - k))
    go true e = cos_positive_half (2 * (k - w)) (one w k w1 (leb-true w k e) top)
    go false e = cos_positive_half (2 * (w - k)) (two w k w4)

-- past the quarter turn it is dropped
pub dropped : (w k : ℕ) → w ≤ 4 → k ≤ 6588397 → (k + w ≤ 6588397 → ⊥) → CosinePositive (false, k + w) → ⊥
dropped w k w4 top f c = lt_irrefl (cos_down (2 * (k + w)) (2 ^ 23)) (lt_of_lt_of_le c (cos_past (k + w) (more (k + w) f) (small w k w4 top)))
  where
    small : (w k : ℕ) → w ≤ 4 → k ≤ 6588397 → k + w ≤ 6588401
    small w k h t = omega arith

    more : (a : ℕ) → (a ≤ 6588397 → ⊥) → 6588397 < a
    more a f = omega arith

-- ---- every f32

-- where what is asked at +0 is asked at -0 too
module _ (asked : Bool → ℕ → ℕ → Angle → Type 0) (either : (y : ℕ) (a : Angle) → asked false 0 y a → asked true 0 y a) where
  -- the sign by the test against 0 serves for the number's own
  pub by_sign : (s : Bool) (m : ℕ) (e : ℤ) (r : Float) → Answer (asked (lt (fin s m e) zero32) (m * up e) (down e)) r → Answer (asked s (m * up e) (down e)) r
  by_sign s zero e r h =
      let h0 : Answer (asked false 0 (down e)) r = subst (λ (x : ℕ). Answer (asked false x (down e)) r) (zero-mul (up e)) (subst (λ (b : Bool). Answer (asked b (zero * up e) (down e)) r) (sign_0 s e) h) in
      subst (λ (x : ℕ). Answer (asked s x (down e)) r) (sym (zero-mul (up e))) (record { angle = h0.angle; value = h0.value; in_range = h0.in_range; as_asked = at_0 s h0.angle h0.as_asked })
    where
      at_0 : (s : Bool) (a : Angle) → asked false 0 (down e) a → asked s 0 (down e) a
      at_0 false a h = h
      at_0 true a h = either (down e) a h
  by_sign s (suc m) e r h = subst (λ (b : Bool). Answer (asked b (suc m * up e) (down e)) r) (sign_is s m e) h

  -- a function that is NaN outside of -1 to 1, and inside is as asked
  pub up_to_one_all : (f : Float → Float)
      → ((x : Float) → within one32 x ≡ false → nan ≡ f x)
      → ((s : Bool) (m : ℕ) (e : ℤ) → within one32 (fin s m e) ≡ true → Answer (asked (lt (fin s m e) zero32) (m * up e) (down e)) (f (fin s m e)))
      → (x : Float) → UpToOne asked x (f x)
  unfolding within le lt eq neg
  up_to_one_all f outside inside nan = sym (outside nan refl)
  up_to_one_all f outside inside (inf false) = sym (outside (inf false) refl)
  up_to_one_all f outside inside (inf true) = sym (outside (inf true) refl)
  up_to_one_all f outside inside (fin s m e) = (
    λ h. by_sign s m e (f (fin s m e)) (inside s m e (within_is 0 s m e ∙ le-leb (m * up e) (1 * down e) (le_trans h (le_of_eq (sym (one-mul (down e))))))),
    λ h. sym (outside (fin s m e) (within_is 0 s m e ∙ lt-leb (m * up e) (1 * down e) (lt_of_le_of_lt (le_of_eq (one-mul (down e))) h))),
  )
