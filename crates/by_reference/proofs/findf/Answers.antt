use Rattle.std.proofs.Common.{sym, ap, ◌∙◌, Result}
use Rattle.std.proofs.lemmas.Result.{err_from_is_err_and}
use Rattle.limits.specs.declared.Refusal.{Refusal}
use Rattle.findf.specs.Findf.{walked_by}
use Rattle.findf.specs.declared.Reflected.{Reflected}
use Rattle.by_reference.proofs.findf.Goals as goal

pub returns-in_err-walked : goal.returns-in_err-walked
returns-in_err-walked c =
    let p = err_from_is_err_and c.from_residual.result c.from_residual.ensures.1 in
    rw (p.1, p.2) (ap (λ (a : Result Reflected Refusal). walked_by a c.args.rfx.now) (sym c.in_err-walked.was) ∙ c.findf.ensures)

pub returns : goal.returns
returns c = ap (λ (a : Result Reflected Refusal). walked_by a c.args.rfx.now) (sym c.in_ok-walked.was) ∙ c.findf.ensures
