-- Laws of exit statuses. Assumes nothing.
use Rattle.std.proofs.Common.{◌≡◌, refl, sym, ◌∙◌, ◌⊎◌, inl, inr, arith, ◌<◌, ◌≤◌, ℕ, true, Result, Ok, Err}
use Rattle.std.specs.Prelude.{⊤}
use Rattle.system.specs.Status.{is_status}
use Rattle.system.specs.Outcome.{status_of}
use Rattle.system.specs.declared.outcome.Failure.{Failure}
use Rattle.system.specs.declared.outcome.Failure.TheVariants.{Refused, Usage, NoInput, NoOutput, NotWritten}

-- every outcome's status is one of the help's
pub status_named : (outcome : Result ⊤ Failure) → is_status (status_of outcome) ≡ true
status_named (Ok x) = refl
status_named (Err (Refused limit)) = limit.in_help
status_named (Err Usage) = refl
status_named (Err NoInput) = refl
status_named (Err NoOutput) = refl
status_named (Err NotWritten) = refl

-- what is no limit's number is 0
pub unrefused : {r n : ℕ} → r ≡ n → n ≤ 14 → (r ≡ 0) ⊎ (14 < r) → 0 ≡ n
unrefused e most (inl none) = sym none ∙ e
unrefused e most (inr above) = absurd (omega arith)
