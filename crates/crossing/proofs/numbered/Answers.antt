use Rattle.std.proofs.Common.{◌≡◌, refl, sym, ap, ◌∙◌, Result}
use Rattle.limits.specs.declared.Refusal.{Refusal}
use Rattle.fdist.specs.Fdist.{searched_by}
use Rattle.fdist.specs.declared.Found.{Found}
use Rattle.fdist.specs.declared.Searched.{Searched}
use Rattle.job.specs.Solved.{no_slots}
use Rattle.crossing.specs.Crossing.{numbered_of}
use Rattle.crossing.proofs.numbered.Goals as goal

pub returns-in-Ok : goal.returns-in-Ok
unfolding numbered_of
returns-in-Ok c =
    let left : searched_by c.fdist_over-found.result no_slots ≡ numbered_of c.args.view.job.now c.args.view.answer.now =
    c.fdist_over-found.ensures no_slots ∙ rw (c.numbered_rows-rfx.ensures, c.number.ensures, c.number-2.ensures, c.number-3.ensures) refl in
    ap (λ (s : Searched). s.m) (ap (λ (a : Result Found Refusal). searched_by a no_slots) (sym c.in-Ok.is) ∙ left)

pub returns-in-Err : goal.returns-in-Err
unfolding numbered_of
returns-in-Err c =
    let left : searched_by c.fdist_over-found.result no_slots ≡ numbered_of c.args.view.job.now c.args.view.answer.now =
    c.fdist_over-found.ensures no_slots ∙ rw (c.numbered_rows-rfx.ensures, c.number.ensures, c.number-2.ensures, c.number-3.ensures) refl in
    c.no_slots.ensures ∙ ap (λ (s : Searched). s.m) (ap (λ (a : Result Found Refusal). searched_by a no_slots) (sym c.in-Err.is) ∙ left)
