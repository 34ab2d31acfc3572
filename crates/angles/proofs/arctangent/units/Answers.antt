use Rattle.std.proofs.Common.{◌≡◌, ℕ, ◌^◌, ◌≤◌, true, sym, ◌∙◌, subst, lit≤}
use Rattle.angles.specs.Grid.{within}
use Rattle.angles.proofs.Argument.{scaled_le, scaled_asked}
use Rattle.angles.specs.Arctangent.{limit, atan_units}
use Rattle.angles.proofs.Literals.{lit_23}
use Rattle.angles.proofs.arctangent.units.Goals as goal
use Rattle.angles.proofs.arctangent.units.Goals.{After-is_within, Then-is_within}

test : (c : After-is_within) → within limit c.args.x ≡ c.is_within.result
test c = cc lit_23

taken : (c : Then-is_within) → within limit c.args.x ≡ true
taken c = cc (lit_23, c.if-is_within.true)

pub scaled_by-requires-clause-fact_1 : goal.scaled_by-requires-clause-fact_1
scaled_by-requires-clause-fact_1 c = (scaled_asked 23 40 (lit≤ tt) c.args.x (taken (goal.at.scaled_by-requires-clause-fact_1 c).Then-is_within)).0

pub scaled_by-requires-clause-fact_2 : goal.scaled_by-requires-clause-fact_2
scaled_by-requires-clause-fact_2 c = ((scaled_asked 23 40 (lit≤ tt) c.args.x (taken (goal.at.scaled_by-requires-clause-fact_2 c).Then-is_within)).1).0

pub scaled_by-requires-clause-fact_3 : goal.scaled_by-requires-clause-fact_3
scaled_by-requires-clause-fact_3 c = ((scaled_asked 23 40 (lit≤ tt) c.args.x (taken (goal.at.scaled_by-requires-clause-fact_3 c).Then-is_within)).1).1

pub returns-then-is_within : goal.returns-then-is_within
unfolding atan_units
returns-then-is_within c =
    let d = (goal.at.returns-then-is_within c).Then-is_within in
    let e = c.scaled_by.ensures in
    (rw (taken d) e, subst (λ (n : ℕ). n ≤ 2 ^ 63) (sym e) (scaled_le 23 40 c.args.x (taken d)))

pub returns-else-is_within : goal.returns-else-is_within
unfolding atan_units
returns-else-is_within c = (rw (test (goal.at.returns-else-is_within c).After-is_within ∙ c.if-is_within.false), lit≤ tt)
