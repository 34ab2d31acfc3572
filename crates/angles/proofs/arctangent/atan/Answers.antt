use Rattle.std.proofs.Common.{◌≡◌, ℕ, ◌*◌, ◌^◌, ◌≤◌, Bool, true, false, not, T, sym, refl, ap, ◌∙◌, subst, le_trans, lit≤, eq-eqb}
use lib.Ieee.{Float, nan, inf, fin, up, down, eq, is_nan}
use Rattle.angles.specs.Arctangent.{atan_of}
use Rattle.angles.proofs.ArctangentLaws.{steps_within, atan_nan}
use Rattle.angles.proofs.Literals.{lit_0, zero_by_zero}
use Rattle.angles.proofs.arctangent.atan.Goals as goal
use Rattle.angles.proofs.arctangent.atan.Goals.{Then-x}

-- NaN alone is not equal to itself
self : (x : Float) → is_nan x ≡ not (eq x x)
unfolding is_nan eq
self nan = refl
self (inf true) = refl
self (inf false) = refl
self (fin true m e) = rw (eq-eqb (m * up e * down e) (m * up e * down e) refl)
self (fin false m e) = rw (eq-eqb (m * up e * down e) (m * up e * down e) refl)

is_number : (c : Then-x) → is_nan c.args.x ≡ false
is_number c = self c.args.x ∙ ap not c.if-x.true

pub magnitude-requires : goal.magnitude-requires
magnitude-requires c = subst (λ (b : Bool). T (not b)) (sym (is_number (goal.at.magnitude-requires c).Then-x)) tt

pub in_steps-requires : goal.in_steps-requires
in_steps-requires c = subst (λ (k : ℕ). k ≤ 2 ^ 24) (sym c.steps.ensures) (le_trans (steps_within c.units.result) (lit≤ tt))

pub returns-then-x : goal.returns-then-x
unfolding atan_of
returns-then-x c = rw (is_number (goal.at.returns-then-x c).Then-x) (cc (lit_0, c.units.ensures.0))

pub returns-else-x : goal.returns-else-x
returns-else-x c = let x = c.args.x in zero_by_zero ∙ atan_nan x (self x ∙ ap not c.if-x.false)
