-- The arctangent's recipe meets the requirement at every f32, for every half-width from 1 to 4 steps. Assumes nothing.
use Rattle.std.proofs.Common.{◌≡◌, ℕ, ◌+◌, ◌-◌, ◌*◌, ◌^◌, ◌<◌, ◌≤◌, Bool, true, false, cond, leb, ℤ, sym, refl, ◌∙◌, subst, inl, inr, lt_of_le_of_lt, le_of_lt, add-le-add, mul-le-mul_right, mul-zero, arith, lit<, lit≤, leb-false, leb-true}
use native.Mathlib.Decide.{dec_le}
use lib.Ieee.{Float, nan, inf, fin, up, down, neg, lt, le, eq, is_nan}
use lib.Ieee.Fits.{down_pos}
use lib.Ieee.Exact.{HasValue}
use Rattle.arith.specs.Floats.{scaled}
use Rattle.angles.specs.Series.{sin_den, cos_den}
use Rattle.angles.proofs.Argument.{within_is, scaled_near, scaled_le}
use Rattle.angles.proofs.Steps.{cos_positive_half}
use Rattle.angles.specs.Grid.{zero32, within}
use Rattle.angles.proofs.GridLaws.{in_steps_value}
use Rattle.angles.specs.Arctangent.{atan_top, atan_steps, limit, atan_units, atan_of}
use Rattle.angles.specs.Bound.{Angle, raised, lowered, InRange, CosinePositive, TangentAtMost, TangentAtLeast, Answer, EveryNumber, ArctangentAsked}
use Rattle.angles.proofs.BoundLaws.{kept_towards, dropped, by_sign}
use Rattle.angles.specs.Width.{half_width}
use Rattle.angles.proofs.TangentClimbs.{left, right}
use Rattle.angles.proofs.ArcsineLaws.{not_below_0}
use Rattle.angles.proofs.ArctangentLaws.{Bracket, atan_brackets, far_brackets, steps_within, atan_number, atan_nan}

-- ---- a bracket is what is asked, for either sign

module _ (w k x y : ℕ) (w1 : 1 ≤ w) (w4 : w ≤ 4) (k-top : k ≤ atan_top) (b : Bracket w x y k) where
  -- away from 0: the bracket, or past the quarter turn, where the angle is dropped
  away : CosinePositive (false, k + w) → TangentAtLeast (false, k + w) false x y
  unfolding left right
  away c = go (dec_le (k + w) atan_top)
    where
      go : Dec (k + w ≤ atan_top) → TangentAtLeast (false, k + w) false x y
      go (yes l) = b.over w1 l
      go (no f) = absurd (dropped w k w4 k-top f c)

  -- beyond 0 the tangent has the other sign
  beyond : TangentAtMost (true, w - k) false x y
  beyond = add-le-add (mul-le-mul_right (cos_den (2 ^ 23) * y) (not_below_0 (2 * (w - k)) (one w k w4))) (mul-le-mul_right (sin_den (2 ^ 23) * x) (le_of_lt (cos_positive_half (2 * (w - k)) (two w k w4))))
    where
      one : (w k : ℕ) → w ≤ 4 → 2 * (w - k) ≤ 13176794
      one w k h = omega arith

      two : (w k : ℕ) → w ≤ 4 → 2 * (w - k) < 13176793
      two w k h = omega arith

  pub bracket_asked : (s : Bool) → ArctangentAsked w s x y (s, k)
  unfolding left right
  bracket_asked false = record { at_lowered = λ c. go (leb w k) refl; at_raised = away; one_kept = inl (kept_towards w k w1 w4 k-top false) }
    where
      go : (c : Bool) → leb w k ≡ c → TangentAtMost (cond c (false, k - w) (true, w - k)) false x y
      go true e = b.under w1 (leb-true w k e)
      go false e = beyond
  bracket_asked true = record { at_lowered = away; at_raised = λ c. go (leb w k) refl; one_kept = inr (kept_towards w k w1 w4 k-top true) }
    where
      go : (c : Bool) → leb w k ≡ c → TangentAtLeast (cond c (true, k - w) (false, w - k)) true x y
      go true e = b.under w1 (leb-true w k e)
      go false e = beyond

-- ---- the bracket of every magnitude

number_brackets : (w : ℕ) (s : Bool) (m : ℕ) (e : ℤ) → Bracket w (m * up e) (down e) (atan_steps (atan_units (fin s m e)))
unfolding atan_units
number_brackets w s m e = go (within limit (fin s m e)) refl
  where
    go : (b : Bool) → within limit (fin s m e) ≡ b → Bracket w (m * up e) (down e) (atan_steps (cond b (scaled 40 (fin s m e)) (2 ^ 63)))
    go true q = atan_brackets w (scaled 40 (fin s m e)) (m * up e) (down e) (scaled_le 23 40 (fin s m e) q) (scaled_near 40 s m e) (down_pos e)
    go false q = far_brackets w (m * up e) (down e) (le_of_lt (leb-false (m * up e) (2 ^ 23 * down e) (sym (within_is 23 s m e) ∙ q)))

infinity_brackets : (w : ℕ) (s : Bool) → Bracket w 1 0 (atan_steps (atan_units (inf s)))
unfolding atan_units within le lt eq neg
infinity_brackets w true = far_brackets w 1 0 (lit≤ tt)
infinity_brackets w false = far_brackets w 1 0 (lit≤ tt)

-- ---- every f32

-- 0 has either sign
at_most_0 : (a : Angle) (y : ℕ) → TangentAtMost a false 0 y → TangentAtMost a true 0 y
at_most_0 a y h = simp mul-zero (simp mul-zero at h)

at_least_0 : (a : Angle) (y : ℕ) → TangentAtLeast a false 0 y → TangentAtLeast a true 0 y
at_least_0 a y h = simp mul-zero (simp mul-zero at h)

module _ (w : ℕ) (w1 : 1 ≤ w) (w4 : w ≤ 4) where
  either_asked : (y : ℕ) (a : Angle) → ArctangentAsked w false 0 y a → ArctangentAsked w true 0 y a
  either_asked y a h = record { at_lowered = λ c. at_most_0 (lowered w a) y (h.at_lowered c); at_raised = λ c. at_least_0 (raised w a) y (h.at_raised c); one_kept = h.one_kept }

  -- the answer for the number p / q, by the steps that are found for it
  answer : (x : Float) (p q : ℕ) → is_nan x ≡ false → Bracket w p q (atan_steps (atan_units x)) → Answer (ArctangentAsked w (lt x zero32) p q) (atan_of x)
  answer x p q n b =
      let s = lt x zero32 in
      let k = atan_steps (atan_units x) in
      let top = steps_within (atan_units x) in
      record {
        angle = (s, k);
        value = subst (λ (z : Float). HasValue z s k (2 ^ 22)) (atan_number x n) (in_steps_value s k (lt_of_le_of_lt top (lit< tt)));
        in_range = ranged s k top;
        as_asked = bracket_asked w k p q w1 w4 top b s;
      }
    where
      ranged : (s : Bool) (k : ℕ) → k ≤ atan_top → InRange (s, k)
      ranged false k h = omega arith
      ranged true k h = omega arith

  -- the theorem
  pub atan_meets : (x : Float) → EveryNumber (ArctangentAsked w) x (atan_of x)
  unfolding is_nan lt
  atan_meets nan = sym (atan_nan nan refl)
  atan_meets (inf s) = answer (inf s) 1 0 refl (infinity_brackets w s)
  atan_meets (fin s m e) = by_sign (ArctangentAsked w) either_asked s m e (atan_of (fin s m e)) (answer (fin s m e) (m * up e) (down e) refl (number_brackets w s m e))

-- at the width that is promised
pub atan_promise : (x : Float) → EveryNumber (ArctangentAsked half_width) x (atan_of x)
atan_promise = atan_meets half_width (lit≤ tt) (lit≤ tt)
