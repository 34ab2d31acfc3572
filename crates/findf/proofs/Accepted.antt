-- For `findf_into`: what the outcome of the checks shows. Assumes nothing.
use Rattle.std.proofs.Common.{◌≡◌, ◌∙◌, sym, ap, arith, ℕ, zero, suc, ◌<◌, ◌≤◌, true, refl, leb-true, Result, Ok, Err}
use Rattle.std.specs.Prelude.{⊤}
use lib.Ieee.{Float}
use Rattle.limits.specs.Limits.{broken, number_of, code_of, k_within, freq_within}
use Rattle.limits.proofs.ChainLaws.{not_accepted}
use Rattle.limits.proofs.LimitsLaws.{unbroken}
use Rattle.limits.specs.declared.Refusal.{Refusal}
use Rattle.findf.proofs.FindfLaws.{findf_refusal}
use Rattle.findf.specs.declared.Walked.{Walked}
use Rattle.findf.specs.Requires.{Entries, started_of}
use Rattle.findf.specs.Inputs.{Job, second_of, third_of}
use Rattle.findf.specs.Findf.{limits_of, refused_of, findf_by, findf_of}
use Rattle.findf.specs.declared.Reflectrix.{Reflectrix}

-- a number that is not 0 is that of a refusal
pub refused_by_lem : {A : Type 0} (n : ℕ) (a : Result A Refusal) → (n ≡ 0 → ⊥) → code_of a ≡ n → (e : Refusal) × (Err e ≡ a) × (number_of e ≡ n)
refused_by_lem n (Ok x) h k = absurd (h (sym k))
refused_by_lem n (Err e) h k = (e, refl, k)

-- the checks' outcome, once it is known, decides
module _ (r : Reflectrix) (j : Job) where
  refuses_by : (n : ℕ) → (n ≡ 0 → ⊥) → refused_of n r ≡ findf_by n r j
  unfolding findf_by
  refuses_by zero h = absurd (h refl)
  refuses_by (suc n) h = refl

  pub refuses : {q : ℕ} → q ≡ broken (limits_of j) → (broken (limits_of j) ≡ 0 → ⊥) → refused_of q r ≡ findf_of r j
  unfolding findf_of
  refuses e h = rw e (refuses_by (broken (limits_of j)) h)

  -- a refusal leaves the reflectrix, whatever came of a copy
  pub kept : (left : Reflectrix) (e : Refusal) → refused_of (number_of e) left ≡ findf_of r j → refused_of (number_of e) r ≡ findf_of r j
  kept left e q =
      let n : number_of e ≡ broken (limits_of j) = ap (λ (a : Walked). a.refusal) q ∙ findf_refusal r j in
      refuses n (λ z. not_accepted {A = ⊤} {a = Err e} refl refl (n ∙ z))

  pub walks : {second third : Float} → broken (limits_of j) ≡ 0 → (second ≡ second_of j) × (third ≡ third_of j)
      → started_of r j.nang j.freq j.amind second third j.tables ≡ findf_of r j
  unfolding findf_of findf_by started_of
  walks e k = rw (e, k.0, k.1)

pub below_five : (k : ℕ) → k_within k ≡ true → k < 5
below_five k e = omega (arith, leb-true k 4 e)

-- what the walk asks of a job with no broken limit
pub fit : (j : Job) → broken (limits_of j) ≡ 0 → Entries j.tables.ifob × ((j.nang ≤ 40) × (freq_within j.freq ≡ true))
unfolding limits_of
fit j e =
    let angles = unbroken _ _ _ (unbroken _ _ _ e).1 in
    let frequency = unbroken _ _ _ angles.1 in
    let tables = unbroken _ _ _ (unbroken _ _ _ (unbroken _ _ _ frequency.1).1).1 in
    ((unbroken _ _ _ tables.1).0, (leb-true j.nang 40 angles.0, frequency.0))
