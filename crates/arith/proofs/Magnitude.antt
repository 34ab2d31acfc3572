-- Std's `abs` is the definition's. Assumes nothing.
use Rattle.std.specs.Prelude.{◌≡◌, refl, false, Float}
use Rattle.std.specs.Float.{nan, inf, fin, float_with_sign}
use Rattle.arith.specs.Floats.{abs_of}

pub abs_lem : (x : Float) → float_with_sign false x ≡ abs_of x
unfolding float_with_sign abs_of
abs_lem nan = refl
abs_lem (inf s) = refl
abs_lem (fin s m e) = refl
