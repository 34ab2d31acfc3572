use Rattle.std.proofs.Common.{sym, ap, ◌∙◌}
use Rattle.std.proofs.lemmas.Result.{IfOk-at_ok, err_from_is_err_and}
use Rattle.limits.specs.Limits.{code_of}
use Rattle.limits.proofs.ChainLaws.{accepted, not_accepted}
use Rattle.findf.proofs.Accepted.{refuses, walks, fit}
use Rattle.findf.proofs.findf_into.Goals as goal

pub returns-in_err-second : goal.returns-in_err-second
returns-in_err-second c =
    let e = c.admission_of.ensures.number in
    let p = err_from_is_err_and c.from_residual.result c.from_residual.ensures.1 in
    rw (p.1, p.2) (refuses _ _ (sym (ap code_of c.in_err-second.was) ∙ e) (not_accepted e c.in_err-second.was))

pub started-requires : goal.started-requires
started-requires c = fit _ (accepted c.admission_of.ensures.number c.in_ok-second.was)

pub returns : goal.returns
returns c =
    c.started.ensures
    ∙ walks _ _ (accepted c.admission_of.ensures.number c.in_ok-second.was) (IfOk-at_ok _ c.in_ok-second.was c.admission_of.ensures.point)
