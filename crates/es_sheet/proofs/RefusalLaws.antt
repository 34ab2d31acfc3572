-- For `sentence`: what is said of every limit but three; and for `refusal`: of every number. Assumes nothing.
use mathlib.Core.Path.{◌≡◌, refl, ap}
use native.Mathlib.Omega.{arith}
use Rattle.std.proofs.Common.{ℕ, Result, Ok, Err, inl, inr, ne_eqb}
use Rattle.std.specs.Result.{result_unwrap_or}
use Rattle.limits.specs.declared.NoRefusal.{NoRefusal}
use Rattle.limits.specs.declared.Refusal.{Refusal}
use Rattle.limits.specs.declared.Refusal.TheVariants.{Job, Answer, K, Nang, Freq, Amind, Ghop, Fi, Table, Ifob, Slots, Count, Layer, Es}
use Rattle.limits.specs.Limits.{number_of, Decodes}
use Rattle.es_sheet.specs.Refusal.{sentence_of}

pub others : (r : Refusal) → (r ≡ Job → ⊥) → (r ≡ Freq → ⊥) → (r ≡ Amind → ⊥) → sentence_of 14 ≡ sentence_of (number_of r)
others Job a b c = absurd (a refl)
others Freq a b c = absurd (b refl)
others Amind a b c = absurd (c refl)
others Answer a b c = refl
others K a b c = refl
others Nang a b c = refl
others Ghop a b c = refl
others Fi a b c = refl
others Table a b c = refl
others Ifob a b c = refl
others Slots a b c = refl
others Count a b c = refl
others Layer a b c = refl
others Es a b c = refl

pub told : (n : ℕ) (r : Result Refusal NoRefusal) → Decodes n r → sentence_of (number_of (result_unwrap_or r Es)) ≡ sentence_of n
told n (Ok refusal) e = ap sentence_of e
told n (Err e) (is, inl z) = rw z
told n (Err e) (is, inr l) = rw (ne_eqb n 1 (λ p. omega (arith, p, l)), ne_eqb n 5 (λ p. omega (arith, p, l)), ne_eqb n 6 (λ p. omega (arith, p, l)))
