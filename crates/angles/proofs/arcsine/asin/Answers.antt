use Rattle.std.proofs.Common.{◌≡◌, ℕ, ◌^◌, ◌≤◌, true, sym, ◌∙◌, subst, le_trans, lit≤}
use Rattle.angles.specs.Grid.{one32, within}
use Rattle.angles.proofs.Argument.{within_finite, finite_number, scaled_le, scaled_asked}
use Rattle.angles.specs.Arcsine.{asin_of}
use Rattle.angles.proofs.ArcsineLaws.{asin_steps_below}
use Rattle.angles.proofs.Literals.{lit_0, lit_1, zero_by_zero}
use Rattle.angles.proofs.arcsine.asin.Goals as goal
use Rattle.angles.proofs.arcsine.asin.Goals.{After-is_within, Then-is_within}

test : (c : After-is_within) → within one32 c.args.x ≡ c.is_within.result
test c = cc lit_1

taken : (c : Then-is_within) → within one32 c.args.x ≡ true
taken c = cc (lit_1, c.if-is_within.true)

pub scaled_by-requires : goal.scaled_by-requires
scaled_by-requires c = let a = scaled_asked 0 57 (lit≤ tt) c.args.x (taken (goal.at.scaled_by-requires c).Then-is_within) in record { fact_1 = a.0; fact_2 = a.1.0; fact_3 = a.1.1 }

pub magnitude-requires : goal.magnitude-requires
magnitude-requires c = let x = c.args.x in finite_number x (within_finite 0 x (taken (goal.at.magnitude-requires c).Then-is_within))

pub steps-requires : goal.steps-requires
steps-requires c = subst (λ (n : ℕ). n ≤ 2 ^ 57) (sym c.scaled_by.ensures) (scaled_le 0 57 c.args.x (taken (goal.at.steps-requires c).Then-is_within))

pub in_steps-requires : goal.in_steps-requires
in_steps-requires c = subst (λ (k : ℕ). k ≤ 2 ^ 24) (sym c.steps.ensures) (le_trans (asin_steps_below c.scaled_by.result) (lit≤ tt))

pub returns-then-is_within : goal.returns-then-is_within
unfolding asin_of
returns-then-is_within c = rw (taken (goal.at.returns-then-is_within c).Then-is_within) (cc lit_0)

pub returns-else-is_within : goal.returns-else-is_within
unfolding asin_of
returns-else-is_within c = rw (test (goal.at.returns-else-is_within c).After-is_within ∙ c.if-is_within.false) (cc zero_by_zero)
