use Rattle.std.proofs.Common.{sym, ap, Result}
use Rattle.limits.specs.declared.Refusal.{Refusal}
use Rattle.findf.specs.Findf.{walked_by}
use Rattle.findf.specs.declared.Reflected.{Reflected}
use Rattle.test_entries.proofs.walked.Goals as goal

pub returns-in-Ok : goal.returns-in-Ok
returns-in-Ok c = ap (λ (a : Result Reflected Refusal). walked_by a c.args.rfx) (sym c.in-Ok.is)

pub returns-in-Err : goal.returns-in-Err
returns-in-Err c = rw c.into.ensures (ap (λ (a : Result Reflected Refusal). walked_by a c.args.rfx) (sym c.in-Err.is))
