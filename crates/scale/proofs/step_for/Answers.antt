use Rattle.std.proofs.Common.{rules, ◌≡◌, ℕ, ◌*◌, ◌<◌, ◌≤◌, List, map, sym, subst, ◌∙◌, arith}
use Rattle.std.specs.List.{range_with_len, AllWithin, HoldsAt}
use Rattle.std.specs.Option.{MatchOption}
use Rattle.std.proofs.lemmas.Iterator.{first_from_find, YieldsList-from_slice}
use borrow.Author.Tests.{tests, false-leb}
use Rattle.scale.specs.Scale.{step_at}
use Rattle.scale.proofs.ScaleLaws.{steps_are}
use Rattle.scale.proofs.step_for.Goals as goal
use Rattle.scale.proofs.step_for.Goals.{After-find}

abbrev steps : List ℕ
steps = map step_at (range_with_len 0 21)

found : (c : After-find) → MatchOption c.find.result (AllWithin (λ s. c.args.most * s < c.args.top) steps 0 21) (λ x. (c.args.top ≤ c.args.most * x.now) × (i : ℕ) × (i < 21) × HoldsAt (λ y. y ≡ x.now) steps i × AllWithin (λ s. c.args.most * s < c.args.top) steps 0 i)
unfolding step_at
found c = first_from_find _ _ _ (λ s. c.args.top ≤ c.args.most * s) (λ s. c.args.most * s < c.args.top) c.find.ensures.ran (YieldsList-from_slice steps c.iter.ensures.rest) (λ x q k. search (rules, tests)) (λ x q k. (search rules, false-leb _ _ (search rules)))

pub returns-in-Some-clause-least : goal.returns-in-Some-clause-least
returns-in-Some-clause-least c =
    let h = rw c.in-Some.is at (found (goal.at.returns-in-Some-clause-least c).After-find) in
    record {
      k = h.1;
      is = sym (h.3 0) ∙ steps_are h.1 h.2;
      reaches = h.0;
      least = λ j l. subst (λ s. c.args.most * s < c.args.top) (steps_are j (omega arith)) (h.4 j 0 (omega arith) l);
    }

pub returns-in-None-clause-least : goal.returns-in-None-clause-least
unfolding step_at
returns-in-None-clause-least c =
    let h = rw c.in-None.is at (found (goal.at.returns-in-None-clause-least c).After-find) in
    let short : c.args.most * 5000000 < c.args.top = h 20 0 (omega arith) (omega arith) in
    absurd (omega arith)
