-- The sign of an answer of 0. The arcsine of either 0 is +0, and that of an argument too small for a step has the argument's sign; the arccosine of 1 is +0, and it makes no difference between the zeros. The arctangent is as the arcsine.
-- Assumes nothing.
use Rattle.std.proofs.Common.{◌≡◌, ◌^◌, ◌<◌, ◌≤◌, Bool, true, false, pos, sym, refl, ap, ◌∙◌, inl, inr, zero-le, lit<}
use lib.Ieee.{Float, fin, lt, le, eq, neg, is_nan, mul, of_int, round, size, units, odd}
use Rattle.arith.specs.Floats.{scaled}
use Rattle.angles.specs.Series.{cos_plus, cos_minus, fixed}
use Rattle.angles.proofs.LeastLaws.{unique}
use Rattle.angles.specs.Grid.{in_steps, zero32, one32, within}
use Rattle.angles.specs.Arcsine.{asin_of}
use Rattle.angles.proofs.ArcsineLaws.{tiny, asin_inside}
use Rattle.angles.specs.Arccosine.{acos_top, above, acos_steps, acos_of}
use Rattle.angles.proofs.ArccosineLaws.{acos_falls}
use Rattle.angles.specs.Arctangent.{atan_units, atan_of}
use Rattle.angles.proofs.ArctangentLaws.{atan_number}
use Rattle.angles.proofs.ArctangentGuess.{atan_tiny}

no_steps : (s : Bool) → in_steps s 0 ≡ fin s 0 (pos 0)
unfolding in_steps neg mul of_int round size units odd
no_steps false = refl
no_steps true = refl

pub asin_small : (x : Float) → within one32 x ≡ true → scaled 57 x < 2 ^ 34 → asin_of x ≡ fin (lt x zero32) 0 (pos 0)
asin_small x l h = sym (asin_inside x l) ∙ ap (in_steps (lt x zero32)) (sym (tiny (scaled 57 x) h)) ∙ no_steps (lt x zero32)

pub asin_zero : (s : Bool) → asin_of (fin s 0 (pos 0)) ≡ zero32
unfolding within lt le eq neg scaled
asin_zero false = asin_small (fin false 0 (pos 0)) refl (lit< tt)
asin_zero true = asin_small (fin true 0 (pos 0)) refl (lit< tt)

pub acos_zero : acos_of (fin true 0 (pos 0)) ≡ acos_of zero32
unfolding acos_of within lt le eq neg scaled
acos_zero = refl

pub acos_one : acos_of one32 ≡ zero32
unfolding acos_of acos_steps within lt le eq neg scaled above cos_plus cos_minus fixed
acos_one = ap (in_steps false) (sym (unique (above false (2 ^ 57)) acos_top (acos_falls false (2 ^ 57)) 0 (record { within = zero-le; holds_before = inl refl; fails_here = inr refl }))) ∙ no_steps false

pub atan_small : (x : Float) → is_nan x ≡ false → atan_units x ≤ 2 ^ 17 → atan_of x ≡ fin (lt x zero32) 0 (pos 0)
atan_small x n h = sym (atan_number x n) ∙ ap (in_steps (lt x zero32)) (sym (atan_tiny (atan_units x) h)) ∙ no_steps (lt x zero32)

pub atan_zero : (s : Bool) → atan_of (fin s 0 (pos 0)) ≡ zero32
unfolding within lt le eq neg is_nan atan_units scaled
atan_zero false = atan_small (fin false 0 (pos 0)) refl zero-le
atan_zero true = atan_small (fin true 0 (pos 0)) refl zero-le
