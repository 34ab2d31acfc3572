use Prim.Native.Nat.{suc, ◌-◌}
use mathlib.Core.Path.{◌≡◌, sym, ap, ◌∙◌}
use native.Mathlib.Omega.{arith}
use Rattle.rounding.specs.Decimals.{shown_in}
use Rattle.rounding.proofs.DecimalsLaws.{shown_before, tried_fits, tried_fewer}
use Rattle.rounding.proofs.Magnitude.fitting.Goals as goal
use Rattle.rounding.proofs.Magnitude.fitting.Goals.{After-columns}

-- what is left to try, from the place that is tried now
now : (c : After-columns) → shown_in c.args.below c.args.self.significand c.args.self.field c.args.width c.args.places ≡ shown_in c.args.below c.args.self.significand c.args.self.field c.args.width (c.loop-left.left - 1)
now c =
    let a = c.args in
    let one : c.loop-left.left ≡ suc (c.loop-left.left - 1) = omega arith in
    c.loop-left.invariant ∙ ap (shown_before a.below a.self.significand a.self.field a.width) one

pub returns-then-columns-width : goal.returns-then-columns-width
returns-then-columns-width c =
    let a = c.args in
    tried_fits a.below a.self.significand a.self.field a.width (c.loop-left.left - 1) (omega arith) c.power.ensures.value c.units-units.ensures c.columns.ensures c.if-columns-width.true ∙ sym (now (goal.at.returns-then-columns-width c).After-columns)

pub loop-left-preserved : goal.loop-left-preserved
loop-left-preserved c =
    let a = c.args in
    now (goal.at.loop-left-preserved c).After-columns ∙ tried_fewer a.below a.self.significand a.self.field a.width (c.loop-left.left - 1) (omega arith) c.power.ensures.value c.units-units.ensures c.columns.ensures c.if-columns-width.false
