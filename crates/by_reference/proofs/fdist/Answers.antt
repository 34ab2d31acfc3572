use Rattle.std.proofs.Common.{sym, ap, ◌∙◌, Result}
use Rattle.std.proofs.lemmas.Result.{err_from_is_err_and}
use Rattle.limits.specs.declared.Refusal.{Refusal}
use Rattle.fdist.specs.Fdist.{searched_by}
use Rattle.fdist.specs.declared.Found.{Found}
use Rattle.by_reference.proofs.fdist.Goals as goal

pub returns-in_err-found : goal.returns-in_err-found
returns-in_err-found c =
    let p = err_from_is_err_and c.from_residual.result c.from_residual.ensures.1 in
    rw (p.1, p.2) (ap (λ (a : Result Found Refusal). searched_by a c.args.m.now) (sym c.in_err-found.was) ∙ c.fdist.ensures c.args.m.now)

pub returns : goal.returns
returns c = ap (λ (a : Result Found Refusal). searched_by a c.args.m.now) (sym c.in_ok-found.was) ∙ c.fdist.ensures c.args.m.now
