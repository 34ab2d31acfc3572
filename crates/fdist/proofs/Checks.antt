-- For `fdist_over` and those who lend it slots: the answer by the number of the first limit broken. Assumes nothing.
use mathlib.Core.Path.{◌≡◌, refl, ap, ◌∙◌}
use Prim.Native.Nat.{ℕ, zero, suc}
use Rattle.fdist.specs.declared.HopModes.{HopModes}
use Rattle.fdist.specs.declared.Searched.{Searched}
use Rattle.fdist.specs.Fdist.{limits_of, refused_of, unless_broken, fdist_by, fdist_of}
use Rattle.fdist.proofs.DemandLaws.{refusal_is}
use Rattle.findf.specs.declared.Reflectrix.{Reflectrix}
use Rattle.limits.specs.declared.Refusal.{Refusal}
use Rattle.limits.specs.Limits.{broken, number_of}
use Rattle.limits.proofs.ChainLaws.{not_accepted}
use Rattle.std.proofs.Common.{Err}
use Rattle.std.specs.Prelude.{⊤}
use lib.Ieee.{Float}

pub refused_by_lem : (n : ℕ) (m : HopModes) (found : Searched) → (n ≡ 0 → ⊥) → refused_of m n ≡ unless_broken n m found
refused_by_lem zero m found h = absurd (h refl)
refused_by_lem (suc n) m found h = refl

-- a refusal leaves the slots, whatever came of a copy
pub kept : (m left : HopModes) (rfx : Reflectrix) (ghop amind freq : Float) (e : Refusal) → refused_of left (number_of e) ≡ fdist_of m rfx ghop amind freq
    → refused_of m (number_of e) ≡ fdist_of m rfx ghop amind freq
unfolding fdist_by
kept m left rfx ghop amind freq e q =
    let n : number_of e ≡ broken (limits_of ghop amind freq) = ap (λ (a : Searched). a.refusal) q ∙ refusal_is m rfx ghop amind freq in
    rw n (refused_by_lem _ m _ (λ z. not_accepted {A = ⊤} {a = Err e} refl refl (n ∙ z)))
