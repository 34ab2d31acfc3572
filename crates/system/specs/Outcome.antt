-- The status that a command ends with, by its outcome.
use Rattle.std.specs.Prelude.{ℕ, Result, Ok, Err, ⊤}
use Rattle.limits.specs.Limits.{number_of}
use Rattle.system.specs.declared.outcome.Refused as Limit
use Rattle.system.specs.declared.outcome.Failure.{Failure}
use Rattle.system.specs.declared.outcome.Failure.TheVariants.{Refused, Usage, NoInput, NoOutput, NotWritten}

abbrev pub failure_of : Failure → ℕ
failure_of (Refused limit) = number_of limit.why
failure_of Usage = 64
failure_of NoInput = 66
failure_of NoOutput = 73
failure_of NotWritten = 74

-- 0 where nothing is refused
abbrev pub refusal_number : Result ⊤ Limit.Refused → ℕ
refusal_number (Ok x) = 0
refusal_number (Err limit) = number_of limit.why

abbrev pub status_of : Result ⊤ Failure → ℕ
status_of (Ok x) = 0
status_of (Err failure) = failure_of failure
