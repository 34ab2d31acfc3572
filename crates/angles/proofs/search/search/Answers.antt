use Rattle.std.proofs.Common.{arith, le-leb}
use Rattle.angles.specs.Requires.{holds}
use Rattle.angles.proofs.LeastLaws.{between_above, between_none}
use Rattle.angles.proofs.search.search.Goals as goal

pub loop-lo-preserved-then-s : goal.loop-lo-preserved-then-s
loop-lo-preserved-then-s g c =
    let m = g.A.Arc in
    let a = c.args in
    between_above (holds (m.low a.arc a.t) (m.high a.arc a.t)) m.top c.loop-lo.lo c.loop-lo.hi c.loop-lo-test.true c.loop-lo.invariant (le-leb _ _ (omega (arith, c.sides-s.ensures.low, c.sides-s.ensures.high, c.if-s.true)))

pub returns : goal.returns
returns g c =
    let m = g.A.Arc in
    let a = c.args in
    between_none (holds (m.low a.arc a.t) (m.high a.arc a.t)) m.top c.loop-lo.lo c.loop-lo.hi c.requires.falls c.loop-lo-test.false c.loop-lo.invariant
