use Rattle.rounding.proofs.DecimalsLaws.{float_nan, float_infinity, float_far, float_number}
use Rattle.rounding.proofs.rounded.Goals as goal

pub returns-in-Some : goal.returns-in-Some
returns-in-Some c = let e = c.in-Some.ensures in float_number _ _ _ e.near e.significand e.field c.min.ensures c.fitting.ensures

pub returns-then-w-lt255 : goal.returns-then-w-lt255
returns-then-w-lt255 c = float_far _ _ _ c.if-w-lt255.true c.in_default.ensures.near

pub returns-then-w-gt0 : goal.returns-then-w-gt0
returns-then-w-gt0 c = float_nan _ _ _ c.if-w-lt255.false c.if-w-gt0.true

pub returns-else-w-gt0 : goal.returns-else-w-gt0
returns-else-w-gt0 c = float_infinity _ _ _ c.if-w-lt255.false c.if-w-gt0.false
