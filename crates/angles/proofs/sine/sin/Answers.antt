use Rattle.std.proofs.Common.{◌≡◌, ℕ, ◌^◌, ◌≤◌, true, sym, ◌∙◌, subst, lit≤}
use Rattle.angles.proofs.Literals.{lit_0, zero_by_zero, lit_4}
use Rattle.angles.specs.SinCos.{four32, sin_of}
use Rattle.angles.specs.Grid.{within}
use Rattle.angles.proofs.Argument.{scaled_le, scaled_asked}
use Rattle.angles.proofs.SinCosBounded.{differ_wide, sin_differ}
use Rattle.angles.proofs.sine.sin.Goals as goal
use Rattle.angles.proofs.sine.sin.Goals.{After-is_within, After-scaled_by, Then-is_within}

test : (c : After-is_within) → within four32 c.args.x ≡ c.is_within.result
test c = cc lit_4

taken : (c : Then-is_within) → within four32 c.args.x ≡ true
taken c = cc (lit_4, c.if-is_within.true)

n_le : (c : After-scaled_by) → c.scaled_by.result ≤ 2 ^ 63
n_le c = subst (λ (n : ℕ). n ≤ 2 ^ 63) (sym c.scaled_by.ensures) (scaled_le 2 61 c.args.x (cc (lit_4, c.if-is_within.true)))

pub scaled_by-requires : goal.scaled_by-requires
scaled_by-requires c = let a = scaled_asked 2 61 (lit≤ tt) c.args.x (taken (goal.at.scaled_by-requires c).Then-is_within) in record { fact_1 = a.0; fact_2 = a.1.0; fact_3 = a.1.1 }

pub sin_parts-p-requires : goal.sin_parts-p-requires
sin_parts-p-requires c = n_le (goal.at.sin_parts-p-requires c).After-scaled_by

pub difference_of-requires : goal.difference_of-requires
difference_of-requires c =
    let p = c.sin_parts-p in
    let d = differ_wide p.result.plus p.result.minus (rw (p.ensures.0.0, p.ensures.0.1) (sin_differ c.scaled_by.result (n_le (goal.at.difference_of-requires c).After-scaled_by))) in
    record { fact_1 = d.0; fact_2 = d.1 }

pub returns-then-is_within : goal.returns-then-is_within
unfolding sin_of
returns-then-is_within c = rw (taken (goal.at.returns-then-is_within c).Then-is_within) (cc lit_0)

pub returns-else-is_within : goal.returns-else-is_within
unfolding sin_of
returns-else-is_within c = rw (test (goal.at.returns-else-is_within c).After-is_within ∙ c.if-is_within.false) (cc zero_by_zero)
