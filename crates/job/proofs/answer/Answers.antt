use Rattle.std.proofs.Common.{refl, sym, ap, ◌∙◌, Result}
use Rattle.std.proofs.lemmas.Result.{err_from_is_err_and}
use Rattle.limits.specs.declared.Refusal.{Refusal}
use Rattle.limits.specs.Limits.{code_of}
use Rattle.limits.proofs.ChainLaws.{accepted, not_accepted}
use Rattle.findf.specs.declared.Reflectrix.{Reflectrix}
use Rattle.job.specs.declared.Solution.{Solution}
use Rattle.job.specs.Parts.{job_of}
use Rattle.job.specs.Solved.{solved_with, solved_from}
use Rattle.job.proofs.Runs.{wrong_lengths, solved_code, wrong_words, answered}
use Rattle.job.proofs.answer.Goals as goal

pub returns-in_err-lengths_of : goal.returns-in_err-lengths_of
returns-in_err-lengths_of c =
    let e = c.lengths_of.ensures in
    let p = err_from_is_err_and c.from_residual.result c.from_residual.ensures.1 in
    rw (p.1, p.2) (wrong_lengths c.args.job.now _ _ (sym (ap code_of c.in_err-lengths_of.was) ∙ e) (not_accepted e c.in_err-lengths_of.was))

pub returns-in_err-s : goal.returns-in_err-s
returns-in_err-s c =
    let solved = c.solve_words.ensures ∙ ap (λ (r : Reflectrix). solved_from r (job_of c.args.job.now)) c.all_zero-rfx.ensures in
    let code = solved_code c.solve_words.result c.solve_words.new.rfx in
    let p = err_from_is_err_and c.from_residual-in_err-s.result c.from_residual-in_err-s.ensures.1 in
    let w = wrong_words _ _ (accepted c.lengths_of.ensures c.in_ok-lengths_of.was) _ solved (λ z. not_accepted refl c.in_err-s.was (sym code ∙ z)) in
    rw (p.1, p.2) (sym (ap code_of c.in_err-s.was) ∙ sym code ∙ w.0, w.1)

pub returns : goal.returns
returns c =
    let solved =
    ap (λ (a : Result Solution Refusal). solved_with a c.solve_words.new.rfx) (sym c.in_ok-s.was)
    ∙ c.solve_words.ensures
    ∙ ap (λ (r : Reflectrix). solved_from r (job_of c.args.job.now)) c.all_zero-rfx.ensures in
    answered _ _ (accepted c.lengths_of.ensures c.in_ok-lengths_of.was) _ solved _ _ _ refl c.put_head.ensures c.put_columns.ensures c.put_hops.ensures
