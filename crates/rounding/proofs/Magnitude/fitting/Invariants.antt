use mathlib.Core.Path.{◌≡◌}
use Rattle.rounding.specs.Decimals.{shown_in}
use Rattle.rounding.proofs.DecimalsLaws.{shown_before}
use Rattle.rounding.proofs.Magnitude.fitting.Given as goal

abbrev pub invariant-loop-left : goal.invariant-loop-left
invariant-loop-left l = shown_in l.below l.self.significand l.self.field l.width l.places ≡ shown_before l.below l.self.significand l.self.field l.width l.left
