use Rattle.std.proofs.Common.{sym, ap, ◌∙◌, Result}
use Rattle.std.proofs.lemmas.Result.{err_from_is_err_and}
use Rattle.limits.specs.declared.Refusal.{Refusal}
use Rattle.fdist.proofs.Checks.{kept}
use Rattle.by_reference.specs.ByReference.{searched_with}
use Rattle.by_reference.specs.declared.Counts.{Counts}
use Rattle.by_reference.proofs.lending.fdist.Goals as goal

pub returns-in_err-counts : goal.returns-in_err-counts
returns-in_err-counts c =
    let p = err_from_is_err_and c.from_residual.result c.from_residual.ensures.1 in
    rw (p.1, p.2) (kept _ _ c.args.rfx _ _ _ _ (ap (λ (a : Result Counts Refusal). searched_with a c.fdist.new.m) (sym c.in_err-counts.was) ∙ c.fdist.ensures))

pub returns : goal.returns
returns c = ap (λ (a : Result Counts Refusal). searched_with a c.fdist.new.m) (sym c.in_ok-counts.was) ∙ c.fdist.ensures
