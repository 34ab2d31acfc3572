use Rattle.std.proofs.Common.{sym, ap, Result}
use Rattle.limits.specs.declared.Refusal.{Refusal}
use Rattle.fdist.specs.Fdist.{searched_by}
use Rattle.fdist.specs.declared.Found.{Found}
use Rattle.test_entries.proofs.searched.Goals as goal

pub returns-in-Ok : goal.returns-in-Ok
returns-in-Ok c = ap (λ (a : Result Found Refusal). searched_by a c.args.m) (sym c.in-Ok.is)

pub returns-in-Err : goal.returns-in-Err
returns-in-Err c = rw c.into.ensures (ap (λ (a : Result Found Refusal). searched_by a c.args.m) (sym c.in-Err.is))
