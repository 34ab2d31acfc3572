-- What the limits say of an accepted call. Assumes nothing.
use mathlib.Core.Path.{◌≡◌, refl, ap, ◌∙◌}
use mathlib.Core.Bool.{Bool, true, false, cond}
use mathlib.Core.List.{List}
use Prim.Native.Nat.{ℕ, zero, suc, ◌≤◌, ◌<◌, min}
use native.Mathlib.Omega.{arith}
use lib.ListN.{get_or}
use lib.Ieee.{Float, nan, lt}
use Rattle.arith.specs.Floats.{◌⊖◌}
use Rattle.arith.specs.Numbers.{0·0}
use Rattle.limits.specs.Limits.{broken, freq_within, amind_within, km_within, hs_within, gcd_within, gcdkm_within, points_within, es_within}
use Rattle.limits.proofs.LimitsLaws.{both, km_within_lem, points_within_lem, unbroken}
use Rattle.esmod.specs.declared.EsModes.{EsModes}
use Rattle.esmod.specs.Esmod.{middle_of, point_of, no_hops, limits_of, answer_of}

either : (t : Bool) (a b n : ℕ) → a ≤ n → b ≤ n → cond t a b ≤ n
either true a b n p q = p
either false a b n p q = q

-- the point is counted
pub point_counted : (fs : List (List Float)) (n : ℕ) → point_of fs (suc n) ≤ n
unfolding point_of
point_counted fs zero = either (lt 0·0 (middle_of fs 0 ⊖ middle_of fs 0)) 0 0 0 (omega arith) (omega arith)
point_counted fs (suc n) =
    let k = point_of fs (suc n) in
    either (lt 0·0 (middle_of fs k ⊖ middle_of fs (suc n))) (suc n) k (suc n) (omega arith) (omega (arith, point_counted fs n))

below : (fs : List (List Float)) (km : ℕ) → 1 ≤ km → point_of fs km < km
below fs zero h = absurd (omega (arith, h))
below fs (suc n) h = omega (arith, point_counted fs n)

pub record Accepted (km : ℕ) (fs : List (List Float)) (hs : List Float) (gcdkm : Float) : Type 0 where
  pub few : km ≤ 5
  pub counted : point_of fs km < km
  pub points : points_within fs hs km ≡ true
  pub chosen : hs_within (get_or hs (point_of fs km) nan) ≡ true
  pub path : gcdkm_within gcdkm ≡ true

module _ (km : ℕ) (fs : List (List Float)) (hs : List Float) (gcd gcdkm amind freq fsdead : Float) where
  of_numbers : es_within km fs hs gcd gcdkm fsdead ≡ true → Accepted km fs hs gcdkm
  unfolding es_within
  of_numbers e =
      let a = both (km_within km) _ e in
      let b = both (points_within fs hs km) _ a.1 in
      let c = both (gcd_within gcd) _ b.1 in
      let k = km_within_lem km a.0 in
      let l = below fs km k.0 in
      record { few = k.1; counted = l; points = b.0; chosen = (both (hs_within (get_or hs (point_of fs km) nan)) _ (points_within_lem fs hs km (point_of fs km) b.0 l)).0; path = (both (gcdkm_within gcdkm) _ c.1).0 }

  pub accepted : broken (limits_of km fs hs gcd gcdkm amind freq fsdead) ≡ 0 → Accepted km fs hs gcdkm
  unfolding limits_of
  accepted e =
      let a = unbroken _ (freq_within freq) _ e in
      let b = unbroken _ (amind_within amind) _ a.1 in
      of_numbers (unbroken _ (es_within km fs hs gcd gcdkm fsdead) _ b.1).0

whole : (km : ℕ) → km ≤ 5 → min km 5 ≡ km
whole km h = omega arith

-- the point among at most 5 is the point
pub point_is : {km : ℕ} {fs : List (List Float)} {hs : List Float} {gcdkm : Float} {k : ℕ} → Accepted km fs hs gcdkm → k ≡ point_of fs (min km 5) → k ≡ point_of fs km
point_is {km} {fs} a e = e ∙ ap (point_of fs) (whole km a.few)

-- the two ways of an answer
pub refused_is : (n : ℕ) (m : EsModes) → (n ≡ 0 → ⊥) → no_hops n ≡ answer_of n m
unfolding answer_of
refused_is zero m h = absurd (h refl)
refused_is (suc n) m h = refl

pub accepted_is : {n : ℕ} (m : EsModes) → n ≡ 0 → m ≡ answer_of n m
unfolding answer_of
accepted_is m e = rw e
