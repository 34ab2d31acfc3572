-- The recipes of the sine and the cosine meet what is asked of them, at every Float. Assumes nothing.
use Rattle.std.proofs.Common.{◌≡◌, ℕ, zero, suc, ◌*◌, ◌^◌, ◌<◌, ◌≤◌, Bool, true, false, cond, ℤ, sym, refl, ◌∙◌, subst, le_trans, le_refl, add-le-add, mul-le-mul_right, zero-mul, lit≤, le-leb}
use lib.Ieee.{Float, nan, inf, fin, up, down, neg, lt, le, eq}
use lib.Ieee.Fits.{down_pos}
use borrow.Author.Tests.{lt-leb}
use Rattle.angles.specs.Series.{Near, square, power, sin_plus, sin_minus, cos_plus, sin_up, sin_down, sin_den, cos_den, cos_minus, cos_up, cos_down}
use Rattle.angles.proofs.Near.{plus_near, minus_near}
use Rattle.angles.proofs.CosNear.{cos_plus_near, cos_minus_near}
use Rattle.angles.specs.Grid.{zero32, within}
use Rattle.angles.proofs.GridLaws.{sign_is, sign_0}
use Rattle.angles.specs.SinCos.{four32, difference, sin_of, cos_of}
use Rattle.arith.specs.Floats.{scaled}
use Rattle.angles.specs.SinCosAsked.{NearTo, NearSine, NearCosine, Asked}
use Rattle.angles.proofs.SinCosBounded.{sin_differ, cos_differ}
use Rattle.angles.proofs.Argument.{within_is, scaled_near, scaled_le}
use Rattle.angles.proofs.SinCosLaws.{UpTo2, difference_near, difference_at_most}

widened : (s a b x e : ℕ) → e ≤ 64 → Near s a b x e → Near s a b x 64
widened s a b x e h n = (n.0, le_trans n.1 (mul-le-mul_right b (add-le-add (le_refl x) h)))

-- ---- at a number s m * 2 ^ e of magnitude up to 4
module _ (s : Bool) (m : ℕ) (e : ℤ) (h : m * up e ≤ 4 * down e) where
  inside : within four32 (fin s m e) ≡ true
  inside = within_is 2 s m e ∙ le-leb (m * up e) (4 * down e) h

  sin_near : (t : Bool) → NearTo (difference t (sin_plus (scaled 61 (fin s m e))) (sin_minus (scaled 61 (fin s m e)))) (cond t (sin_down (m * up e) (down e)) (sin_up (m * up e) (down e))) (cond t (sin_up (m * up e) (down e)) (sin_down (m * up e) (down e))) (sin_den (down e))
  sin_near t =
      let a = m * up e in
      let b = down e in
      let n = scaled 61 (fin s m e) in
      let N = scaled_le 2 61 (fin s m e) inside in
      let at = scaled_near 61 s m e in
      difference_near t (sin_plus n) (sin_minus n) (sin_up a b) (sin_down a b) (sin_den b) (sin_differ n N) (widened (2 ^ 57) (sin_up a b) (sin_den b) (sin_plus n) 28 (lit≤ tt) (plus_near a b n (down_pos e) N at)) (widened (2 ^ 57) (sin_down a b) (sin_den b) (sin_minus n) 40 (lit≤ tt) (minus_near a b n (down_pos e) N at))

  cos_near : NearTo (difference false (cos_plus (power (scaled 61 (fin s m e)))) (cos_minus (square (scaled 61 (fin s m e))) (power (scaled 61 (fin s m e))))) (cos_up (m * up e) (down e)) (cos_down (m * up e) (down e)) (cos_den (down e))
  cos_near =
      let a = m * up e in
      let b = down e in
      let k = cos_den b in
      let n = scaled 61 (fin s m e) in
      let N = scaled_le 2 61 (fin s m e) inside in
      let at = scaled_near 61 s m e in
      let p = cos_plus (power n) in
      let q = cos_minus (square n) (power n) in
      difference_near false p q (cos_up a b) (cos_down a b) k (cos_differ n N) (widened (2 ^ 57) (cos_up a b) k p 52 (lit≤ tt) (cos_plus_near a b n (down_pos e) N at)) (widened (2 ^ 57) (cos_down a b) k q 17 (lit≤ tt) (cos_minus_near a b n (down_pos e) N at))

outside : (s : Bool) (m : ℕ) (e : ℤ) → 4 * down e < m * up e → within four32 (fin s m e) ≡ false
outside s m e h = within_is 2 s m e ∙ lt-leb (m * up e) (4 * down e) h

-- ---- the sine
-- at 0 the added terms and those taken away are alike, so its sign does not matter
zero_alike : (a b : ℕ) → a ≡ 0 → sin_up a b ≡ sin_down a b
unfolding sin_up sin_down
zero_alike a b e = rw e (simp zero-mul)

alike : (r : Float) (u d k : ℕ) → u ≡ d → NearTo r u d k → NearTo r d u k
alike r u d k e h = subst (λ (w : ℕ). NearTo r w u k) e (subst (λ (w : ℕ). NearTo r u w k) (sym e) h)

sine_at : (s t : Bool) (m : ℕ) (e : ℤ) → lt (fin s m e) zero32 ≡ t → m * up e ≤ 4 * down e → NearTo (sin_of (fin s m e)) (cond t (sin_down (m * up e) (down e)) (sin_up (m * up e) (down e))) (cond t (sin_up (m * up e) (down e)) (sin_down (m * up e) (down e))) (sin_den (down e))
unfolding sin_of
sine_at s t m e l h = rw (inside s m e h, l) (sin_near s m e h t)

sine_near : (s : Bool) (m : ℕ) (e : ℤ) → m * up e ≤ 4 * down e → NearSine (sin_of (fin s m e)) s (m * up e) (down e)
sine_near false zero e h = sine_at false false zero e (sign_0 false e) h
sine_near false (suc m) e h = sine_at false false (suc m) e (sign_is false m e) h
sine_near true (suc m) e h = sine_at true true (suc m) e (sign_is true m e) h
sine_near true zero e h =
    let a = zero * up e in
    alike (sin_of (fin true zero e)) (sin_up a (down e)) (sin_down a (down e)) (sin_den (down e)) (zero_alike a (down e) (zero-mul (up e))) (sine_at true false zero e (sign_0 true e) h)

sine_out : (x : Float) → within four32 x ≡ false → sin_of x ≡ nan
unfolding sin_of
sine_out x q = rw q

pub sin_meets : (x : Float) → Asked NearSine x (sin_of x)
unfolding within le lt eq neg
sin_meets nan = sine_out nan refl
sin_meets (inf true) = sine_out (inf true) refl
sin_meets (inf false) = sine_out (inf false) refl
sin_meets (fin s m e) = (sine_near s m e, λ (h : 4 * down e < m * up e). sine_out (fin s m e) (outside s m e h))

-- ---- the cosine
cosine_near : (s : Bool) (m : ℕ) (e : ℤ) → m * up e ≤ 4 * down e → NearCosine (cos_of (fin s m e)) s (m * up e) (down e)
unfolding cos_of
cosine_near s m e h = rw (inside s m e h) (cos_near s m e h)

cosine_out : (x : Float) → within four32 x ≡ false → cos_of x ≡ nan
unfolding cos_of
cosine_out x q = rw q

pub cos_meets : (x : Float) → Asked NearCosine x (cos_of x)
unfolding within le lt eq neg
cos_meets nan = cosine_out nan refl
cos_meets (inf true) = cosine_out (inf true) refl
cos_meets (inf false) = cosine_out (inf false) refl
cos_meets (fin s m e) = (cosine_near s m e, λ (h : 4 * down e < m * up e). cosine_out (fin s m e) (outside s m e h))

-- ---- both are at most 2 in magnitude
pub sin_at_most : (x : Float) → UpTo2 (sin_of x)
unfolding sin_of
sin_at_most x = go (within four32 x) refl
  where
    go : (b : Bool) → within four32 x ≡ b → UpTo2 (cond b (difference (lt x zero32) (sin_plus (scaled 61 x)) (sin_minus (scaled 61 x))) nan)
    go true q = difference_at_most (lt x zero32) (sin_plus (scaled 61 x)) (sin_minus (scaled 61 x)) (sin_differ (scaled 61 x) (scaled_le 2 61 x q))
    go false q = tt

pub cos_at_most : (x : Float) → UpTo2 (cos_of x)
unfolding cos_of
cos_at_most x = go (within four32 x) refl
  where
    n : ℕ
    n = scaled 61 x

    go : (b : Bool) → within four32 x ≡ b → UpTo2 (cond b (difference false (cos_plus (power n)) (cos_minus (square n) (power n))) nan)
    go true q = difference_at_most false (cos_plus (power n)) (cos_minus (square n) (power n)) (cos_differ n (scaled_le 2 61 x q))
    go false q = tt
