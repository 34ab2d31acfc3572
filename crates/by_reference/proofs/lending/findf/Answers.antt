use Rattle.std.proofs.Common.{ℕ, sym, ap, ◌∙◌, Result}
use Rattle.std.proofs.lemmas.Result.{err_from_is_err_and}
use Rattle.limits.specs.declared.Refusal.{Refusal}
use Rattle.findf.specs.Findf.{walked_with}
use Rattle.findf.proofs.Accepted.{kept}
use Rattle.by_reference.proofs.lending.findf.Goals as goal

pub returns-in_err-looks : goal.returns-in_err-looks
returns-in_err-looks c =
    let p = err_from_is_err_and c.from_residual.result c.from_residual.ensures.1 in
    rw (p.1, p.2) (kept _ _ _ _ (ap (λ (a : Result ℕ Refusal). walked_with a c.findf.new.rfx) (sym c.in_err-looks.was) ∙ c.findf.ensures))

pub returns : goal.returns
returns c = ap (λ (a : Result ℕ Refusal). walked_with a c.findf.new.rfx) (sym c.in_ok-looks.was) ∙ c.findf.ensures
