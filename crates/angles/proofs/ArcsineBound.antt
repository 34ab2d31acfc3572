-- The arcsine is as asked, at every f32 and every width from 1 to 4 steps. Assumes nothing.
use Rattle.std.proofs.Common.{◌≡◌, ℕ, ◌+◌, ◌-◌, ◌*◌, ◌^◌, ◌≤◌, Bool, true, false, cond, leb, ℤ, refl, subst, inl, inr, le_trans, le-add_right, lt_of_le_of_lt, mul-le-mul_right, arith, lit<, lit≤, leb-true}
use native.Mathlib.Decide.{dec_le}
use lib.Ieee.{Float, fin, up, down, lt}
use lib.Ieee.Exact.{HasValue}
use Rattle.arith.specs.Floats.{scaled}
use Rattle.angles.specs.Series.{sin_up, sin_down, sin_den}
use Rattle.angles.specs.Grid.{zero32, one32, within}
use Rattle.angles.proofs.GridLaws.{in_steps_value}
use Rattle.angles.proofs.Argument.{scaled_near}
use Rattle.angles.specs.Arcsine.{asin_steps, asin_of}
use Rattle.angles.proofs.ArcsineLaws.{Bracket, asin_brackets, asin_steps_below, not_below_0, asin_inside, asin_outside}
use Rattle.angles.specs.Bound.{Angle, raised, lowered, InRange, AtMost, AtLeast, sin_added, sin_taken, CosinePositive, Answer, UpToOne, ArcsineAsked}
use Rattle.angles.proofs.BoundLaws.{kept_towards, dropped, at_most_0, at_least_0, up_to_one_all}
use Rattle.angles.specs.Width.{half_width}

-- a bracket is what is asked, for either sign
module _ (w k x y : ℕ) (w1 : 1 ≤ w) (w4 : w ≤ 4) (top : k ≤ 6588397) (b : Bracket w x y k) where
  -- beyond 0: the series has the other sign
  beyond : sin_down (2 * (w - k)) (2 ^ 23) * y ≤ sin_up (2 * (w - k)) (2 ^ 23) * y + x * sin_den (2 ^ 23)
  beyond = le_trans (mul-le-mul_right y (not_below_0 (2 * (w - k)) (few w k w4))) (le-add_right (sin_up (2 * (w - k)) (2 ^ 23) * y) (x * sin_den (2 ^ 23)))
    where
      few : (w k : ℕ) → w ≤ 4 → 2 * (w - k) ≤ 13176794
      few w k h = omega arith

  -- away from 0: the bracket, or past the quarter turn, where the angle is dropped
  away : CosinePositive (false, k + w) → AtLeast (sin_up (2 * (k + w)) (2 ^ 23)) (sin_down (2 * (k + w)) (2 ^ 23)) (sin_den (2 ^ 23)) false x y
  away c = go (dec_le (k + w) 6588397)
    where
      go : Dec (k + w ≤ 6588397) → AtLeast (sin_up (2 * (k + w)) (2 ^ 23)) (sin_down (2 * (k + w)) (2 ^ 23)) (sin_den (2 ^ 23)) false x y
      go (yes l) = b.over w1 l
      go (no f) = absurd (dropped w k w4 top f c)

  swap : (a c d : ℕ) → c + a ≤ d → a + c ≤ d
  swap a c d h = omega arith

  pub bracket_asked : (s : Bool) → ArcsineAsked w s x y (s, k)
  bracket_asked false = record { at_lowered = λ c. go (leb w k) refl; at_raised = away; one_kept = inl (kept_towards w k w1 w4 top false) }
    where
      go : (c : Bool) → leb w k ≡ c → AtMost (sin_added (cond c (false, k - w) (true, w - k))) (sin_taken (cond c (false, k - w) (true, w - k))) (sin_den (2 ^ 23)) false x y
      go true e = b.under w1 (leb-true w k e)
      go false e = beyond
  bracket_asked true = record { at_lowered = λ c. swap (sin_down (2 * (k + w)) (2 ^ 23) * y) (x * sin_den (2 ^ 23)) (sin_up (2 * (k + w)) (2 ^ 23) * y) (away c); at_raised = λ c. go (leb w k) refl; one_kept = inr (kept_towards w k w1 w4 top true) }
    where
      go : (c : Bool) → leb w k ≡ c → AtLeast (sin_added (cond c (true, k - w) (false, w - k))) (sin_taken (cond c (true, k - w) (false, w - k))) (sin_den (2 ^ 23)) true x y
      go true e = b.under w1 (leb-true w k e)
      go false e = beyond

either_asked : (w y : ℕ) (a : Angle) → ArcsineAsked w false 0 y a → ArcsineAsked w true 0 y a
either_asked w y a h = record {
  at_lowered = λ c. at_most_0 (sin_added (lowered w a)) (sin_taken (lowered w a)) (sin_den (2 ^ 23)) y (h.at_lowered c);
  at_raised = λ c. at_least_0 (sin_added (raised w a)) (sin_taken (raised w a)) (sin_den (2 ^ 23)) y (h.at_raised c);
  one_kept = h.one_kept;
}

-- a number of magnitude up to 1
inside : (w : ℕ) → 1 ≤ w → w ≤ 4 → (s : Bool) (m : ℕ) (e : ℤ) → within one32 (fin s m e) ≡ true → Answer (ArcsineAsked w (lt (fin s m e) zero32) (m * up e) (down e)) (asin_of (fin s m e))
inside w w1 w4 s m e q =
    let x = fin s m e in
    let t = lt x zero32 in
    let n = scaled 57 x in
    let k = asin_steps n in
    let top = asin_steps_below n in
    let u = scaled_near 57 s m e in
    record {
      angle = (t, k);
      value = subst (λ (z : Float). HasValue z t k (2 ^ 22)) (asin_inside x q) (in_steps_value t k (lt_of_le_of_lt top (lit< tt)));
      in_range = ranged t k top;
      as_asked = bracket_asked w k (m * up e) (down e) w1 w4 top (asin_brackets w n (m * up e) (down e) u.0 u.1) t;
    }
  where
    ranged : (s : Bool) (k : ℕ) → k ≤ 6588397 → InRange (s, k)
    ranged false k h = omega arith
    ranged true k h = omega arith

-- the theorem
pub asin_meets : (w : ℕ) → 1 ≤ w → w ≤ 4 → (x : Float) → UpToOne (ArcsineAsked w) x (asin_of x)
asin_meets w w1 w4 = up_to_one_all (ArcsineAsked w) (either_asked w) asin_of asin_outside (inside w w1 w4)

-- at the width that is promised
pub asin_promise : (x : Float) → UpToOne (ArcsineAsked half_width) x (asin_of x)
asin_promise = asin_meets half_width (lit≤ tt) (lit≤ tt)
