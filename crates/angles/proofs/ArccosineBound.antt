-- The arccosine is as asked, at every f32 and every width from 1 to 4 steps. Assumes nothing.
use Rattle.std.proofs.Common.{◌≡◌, ℕ, ◌+◌, ◌-◌, ◌*◌, ◌^◌, ◌<◌, ◌≤◌, Bool, true, false, cond, leb, ◌⊎◌, ℤ, sym, refl, subst, inl, inr, lt_trans, lt_of_lt_of_le, lt_of_le_of_lt, lt_irrefl, arith, lit<, lit≤, le-leb, leb-false, leb-true}
use native.Mathlib.Decide.{dec_le}
use lib.Ieee.{Float, fin, up, down, lt}
use lib.Ieee.Exact.{HasValue}
use Rattle.arith.specs.Floats.{scaled}
use Rattle.angles.specs.Series.{sin_up, sin_down, cos_den}
use Rattle.angles.proofs.Steps.{sin_positive, sin_past}
use Rattle.angles.specs.Grid.{zero32, one32, within}
use Rattle.angles.proofs.GridLaws.{in_steps_value}
use Rattle.angles.proofs.Argument.{scaled_near}
use Rattle.angles.specs.Arccosine.{acos_steps, acos_of}
use Rattle.angles.proofs.ArccosineLaws.{Bracket, acos_brackets, acos_steps_below, acos_inside, acos_outside}
use Rattle.angles.specs.Bound.{Angle, raised, lowered, AtMost, AtLeast, cos_added, cos_taken, SinePositive, Answer, UpToOne, ArccosineAsked}
use Rattle.angles.proofs.BoundLaws.{at_most_0, at_least_0, up_to_one_all}
use Rattle.angles.specs.Width.{half_width}

none : (a b : ℕ) → a < b → b ≤ a → ⊥
none a b h k = lt_irrefl a (lt_of_lt_of_le h k)

-- a bracket is what is asked, for either sign of the argument
module _ (w k x y : ℕ) (s : Bool) (w1 : 1 ≤ w) (w4 : w ≤ 4) (top : k ≤ 13176794) (b : Bracket w s x y k) where
  abbrev over_at : Angle → Type 0
  over_at a = AtLeast (cos_added a) (cos_taken a) (cos_den (2 ^ 23)) s x y

  -- lowered to 0 at most: the bracket; beyond: dropped
  at_lowered : SinePositive (lowered w (false, k)) → over_at (lowered w (false, k))
  at_lowered = go (leb w k) refl
    where
      beyond : (w k : ℕ) → w ≤ 4 → k < w → (1 ≤ w - k) × (w - k ≤ 13176794)
      beyond w k h l = (omega arith, omega arith)

      go : (c : Bool) → leb w k ≡ c → SinePositive (cond c (false, k - w) (true, w - k)) → over_at (cond c (false, k - w) (true, w - k))
      go true e p = b.under w1 (leb-true w k e)
      go false e p =
          let r = beyond w k w4 (leb-false w k e) in
          absurd (lt_irrefl (sin_up (2 * (w - k)) (2 ^ 23)) (lt_trans p (sin_positive (w - k) r.0 r.1)))

  -- raised up to the half turn: the bracket; past it: dropped
  at_raised : SinePositive (false, k + w) → AtMost (cos_added (false, k + w)) (cos_taken (false, k + w)) (cos_den (2 ^ 23)) s x y
  at_raised p = go (dec_le (k + w) 13176794)
    where
      small : (w k : ℕ) → w ≤ 4 → k ≤ 13176794 → k + w ≤ 13176798
      small w k h t = omega arith

      more : (a : ℕ) → (a ≤ 13176794 → ⊥) → 13176794 < a
      more a f = omega arith

      go : Dec (k + w ≤ 13176794) → AtMost (cos_added (false, k + w)) (cos_taken (false, k + w)) (cos_den (2 ^ 23)) s x y
      go (yes l) = b.over w1 l
      go (no f) = absurd (none (sin_down (2 * (k + w)) (2 ^ 23)) (sin_up (2 * (k + w)) (2 ^ 23)) p (sin_past (k + w) (more (k + w) f) (small w k w4 top)))

  one_kept : SinePositive (lowered w (false, k)) ⊎ SinePositive (raised w (false, k))
  one_kept = go (dec_le (w + 1) k)
    where
      some : (w k : ℕ) → w + 1 ≤ k → k ≤ 13176794 → (1 ≤ k - w) × ((k - w ≤ 13176794) × (w ≤ k))
      some w k h t = (omega arith, (omega arith, omega arith))

      few : (w k : ℕ) → 1 ≤ w → w ≤ 4 → (w + 1 ≤ k → ⊥) → (1 ≤ k + w) × (k + w ≤ 13176794)
      few w k h l f = (omega arith, omega arith)

      go : Dec (w + 1 ≤ k) → SinePositive (lowered w (false, k)) ⊎ SinePositive (raised w (false, k))
      go (yes l) = let r = some w k l top in inl (subst (λ (c : Bool). SinePositive (cond c (false, k - w) (true, w - k))) (sym (le-leb w k r.1.1)) (sin_positive (k - w) r.0 r.1.0))
      go (no f) = let r = few w k w1 w4 f in inr (sin_positive (k + w) r.0 r.1)

  pub bracket_asked : ArccosineAsked w s x y (false, k)
  bracket_asked = record { at_lowered = at_lowered; at_raised = at_raised; one_kept = one_kept }

either_asked : (w y : ℕ) (a : Angle) → ArccosineAsked w false 0 y a → ArccosineAsked w true 0 y a
either_asked w y a h = record {
  at_lowered = λ c. at_least_0 (cos_added (lowered w a)) (cos_taken (lowered w a)) (cos_den (2 ^ 23)) y (h.at_lowered c);
  at_raised = λ c. at_most_0 (cos_added (raised w a)) (cos_taken (raised w a)) (cos_den (2 ^ 23)) y (h.at_raised c);
  one_kept = h.one_kept;
}

-- a number of magnitude up to 1
inside : (w : ℕ) → 1 ≤ w → w ≤ 4 → (s : Bool) (m : ℕ) (e : ℤ) → within one32 (fin s m e) ≡ true → Answer (ArccosineAsked w (lt (fin s m e) zero32) (m * up e) (down e)) (acos_of (fin s m e))
inside w w1 w4 s m e q =
    let x = fin s m e in
    let t = lt x zero32 in
    let n = scaled 57 x in
    let k = acos_steps t n in
    let top = acos_steps_below t n in
    let u = scaled_near 57 s m e in
    record {
      angle = (false, k);
      value = subst (λ (z : Float). HasValue z false k (2 ^ 22)) (acos_inside x q) (in_steps_value false k (lt_of_le_of_lt top (lit< tt)));
      in_range = ranged k top;
      as_asked = bracket_asked w k (m * up e) (down e) t w1 w4 top (acos_brackets w t n (m * up e) (down e) u.0 u.1);
    }
  where
    ranged : (k : ℕ) → k ≤ 13176794 → k ≤ 4 * 2 ^ 22
    ranged k h = omega arith

-- the theorem
pub acos_meets : (w : ℕ) → 1 ≤ w → w ≤ 4 → (x : Float) → UpToOne (ArccosineAsked w) x (acos_of x)
acos_meets w w1 w4 = up_to_one_all (ArccosineAsked w) (either_asked w) acos_of acos_outside (inside w w1 w4)

-- at the width that is promised
pub acos_promise : (x : Float) → UpToOne (ArccosineAsked half_width) x (acos_of x)
acos_promise = acos_meets half_width (lit≤ tt) (lit≤ tt)
