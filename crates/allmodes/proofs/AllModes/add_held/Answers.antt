use native.Mathlib.Omega.{arith}
use Rattle.allmodes.proofs.Held.{held_none, held_one, held_not, added_one}
use Rattle.allmodes.proofs.AllModes.add_held.Goals as goal
use Rattle.allmodes.proofs.AllModes.add_held.Goals.{then-zon-i, else-zon-i}

pub add_slot-requires : goal.add_slot-requires
add_slot-requires c =
    let h = rw (held_one _ c.loop-i-test.true c.if-zon-i.true) at c.loop-i.invariant.0 in
    (omega (arith, c.loop-i-test.true, c.requires.0), omega (arith, h))

pub loop-i-preserved : goal.loop-i-preserved
loop-i-preserved c =
    elim c.if-zon-i.branch [
      | then-zon-i w ↦
          let h = rw (held_one _ c.loop-i-test.true w.if-zon-i.true) at c.loop-i.invariant in
          rw (w.self-is, w.add_slot.ensures) (omega (arith, h.0, added_one c.args.zon.now c.loop-i.self c.loop-i.i), h.1)
      | else-zon-i w ↦ rw w.self-is (rw (held_not _ c.loop-i-test.true w.if-zon-i.false) at c.loop-i.invariant)
    ]

pub returns : goal.returns
returns c = rw (held_none _ c.loop-i-test.false) at c.loop-i.invariant.1
