use Rattle.std.proofs.Common.{ℕ, refl, sym, ap, ◌∙◌, Result}
use Rattle.std.proofs.lemmas.Result.{err_from_is_err_and}
use Rattle.limits.specs.declared.Refusal.{Refusal}
use Rattle.limits.specs.Limits.{code_of}
use Rattle.limits.proofs.ChainLaws.{accepted, not_accepted}
use Rattle.findf.specs.Findf.{walked_with}
use Rattle.fdist.specs.Fdist.{searched_by}
use Rattle.fdist.specs.declared.Found.{Found}
use Rattle.job.specs.Solved.{no_slots}
use Rattle.job.proofs.Solves.{refused_numbers, refused_tables, found_fine, found}
use Rattle.job.proofs.solve.Goals as goal

pub returns-in_err-numbers_of : goal.returns-in_err-numbers_of
returns-in_err-numbers_of c =
    let e = c.numbers_of.ensures in
    let p = err_from_is_err_and c.from_residual.result c.from_residual.ensures.1 in
    rw (p.1, p.2) (refused_numbers _ _ _ (sym (ap code_of c.in_err-numbers_of.was) ∙ e) (not_accepted e c.in_err-numbers_of.was))

pub returns-in_err-looks : goal.returns-in_err-looks
returns-in_err-looks c =
    let right = accepted c.numbers_of.ensures c.in_ok-numbers_of.was in
    let walks = ap (λ (a : Result ℕ Refusal). walked_with a c.findf_into.new.rfx) (sym c.in_err-looks.was) ∙ c.findf_into.ensures in
    let p = err_from_is_err_and c.from_residual-in_err-looks.result c.from_residual-in_err-looks.ensures.1 in
    rw (p.1, p.2) (refused_tables _ _ right _ walks (not_accepted (ap code_of c.in_err-looks.was) c.in_err-looks.was))

pub returns-in_err-found : goal.returns-in_err-found
returns-in_err-found c =
    absurd (found_fine _ _ _ _ _ c.findf_into.new.rfx _ (accepted c.numbers_of.ensures c.in_ok-numbers_of.was) (ap (λ (a : Result Found Refusal). searched_by a no_slots) (sym c.in_err-found.was) ∙ c.fdist_over.ensures no_slots))

pub returns : goal.returns
returns c =
    let right = accepted c.numbers_of.ensures c.in_ok-numbers_of.was in
    let walks = ap (λ (a : Result ℕ Refusal). walked_with a c.findf_into.new.rfx) (sym c.in_ok-looks.was) ∙ c.findf_into.ensures in
    found _ _ right _ walks _ refl (ap (λ (a : Result Found Refusal). searched_by a no_slots) (sym c.in_ok-found.was) ∙ c.fdist_over.ensures no_slots)
