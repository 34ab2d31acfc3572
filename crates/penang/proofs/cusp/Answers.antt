use Rattle.std.specs.Prelude.{◌≡◌, true, false, Option, Some, None, MatchOption, unwrap_or, Float}
use Rattle.std.specs.Float.Ieee.{le}
use mathlib.Core.Path.{◌∙◌}
use Rattle.arith.specs.Floats.{◌⊗◌, R2D}
use Rattle.arith.specs.Numbers.{0·0, 0·999999}
use Rattle.angles.specs.Arccosine.{acos_of}
use Rattle.penang.specs.Penang.{cusp_of, angle_of}
use Rattle.penang.proofs.cusp.Goals as goal

-- the angle, or 0
angle_or_0 : (o : Option Float) (c : Float) → MatchOption o (le c 0·999999 ≡ false) (λ a. (le c 0·999999 ≡ true) × (a ≡ acos_of c ⊗ R2D)) → unwrap_or o 0·0 ≡ angle_of c
unfolding angle_of
angle_or_0 None c h = rw h
angle_or_0 (Some a) c h = rw h.0 h.1

pub returns : goal.returns
unfolding cusp_of
returns c = c.unwrap_or.ensures ∙ rw (← c.sqrt.ensures) (angle_or_0 c.angle.result _ c.angle.ensures)
