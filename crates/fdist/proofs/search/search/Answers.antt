use mathlib.Core.Path.{sym, subst, ◌∙◌}
use native.Mathlib.Omega.{arith}
use borrow.Author.Tests.{le-leb, lt-leb}
use Rattle.arith.proofs.RunLaws.{leads_start, leads_more, leads_done}
use Rattle.fdist.proofs.PairLaws.{pair_within, next_bounds}
use Rattle.fdist.specs.Requires.{Within}
use Rattle.fdist.specs.Fdist.{after_of, place_by, turn_by, turn_of, run_of}
use Rattle.fdist.proofs.TurnLaws.{turn_tries}
use Rattle.fdist.proofs.search.search.Goals as goal

pub loop-at-init : goal.loop-at-init
unfolding run_of
loop-at-init c = ((omega arith, omega arith, omega arith), rw c.empty-m.ensures (leads_start _ _))

pub returns-then-rfx-at : goal.returns-then-rfx-at
unfolding turn_of turn_by
returns-then-rfx-at c = c.found.ensures ∙ leads_done c.loop-at.invariant.1 (rw (lt-leb _ _ c.loop-at-test.true, c.if-rfx-at.true)) (omega arith)

pub ray_given-ray-requires : goal.ray_given-ray-requires
ray_given-ray-requires c = (c.loop-at-test.true, subst (Within _) (sym c.try_pair-pair.ensures) (pair_within _ _ _ _))

pub next_pair-at-requires : goal.next_pair-at-requires
next_pair-at-requires c = (c.loop-at-test.true, subst (Within _) (sym c.try_pair-pair.ensures) (pair_within _ _ _ _))

pub overflow_add-pairs : goal.overflow_add-pairs
overflow_add-pairs c = omega (arith, c.loop-at.invariant.0)

pub returns-then-rays-ge6 : goal.returns-then-rays-ge6
unfolding after_of place_by
returns-then-rays-ge6 c =
    c.found-then-rays-ge6.ensures
    ∙ leads_done c.loop-at.invariant.1 (turn_tries _ _ _ _ _ c.loop-at-test.true c.if-rfx-at.false c.try_pair-pair.ensures c.next_pair-at.ensures (sym c.ray_given-ray.ensures ∙ c.in-Some.is) ∙ rw (c.if-ray-amind.true, le-leb _ _ c.if-rays-ge6.true)) (omega arith)

pub loop-at-smaller-else-rays-ge6 : goal.loop-at-smaller-else-rays-ge6
loop-at-smaller-else-rays-ge6 c =
    omega (arith, next_bounds _ _ _ _ c.try_pair-pair.ensures c.next_pair-at.ensures, c.loop-at-test.true)

pub loop-at-preserved-else-rays-ge6 : goal.loop-at-preserved-else-rays-ge6
unfolding after_of place_by
loop-at-preserved-else-rays-ge6 c =
    let n = next_bounds _ _ _ _ c.try_pair-pair.ensures c.next_pair-at.ensures in (
      (omega arith, omega arith, c.if-rays-ge6.false),
      leads_more c.loop-at.invariant.1 (turn_tries _ _ _ _ _ c.loop-at-test.true c.if-rfx-at.false c.try_pair-pair.ensures c.next_pair-at.ensures (sym c.ray_given-ray.ensures ∙ c.in-Some.is) ∙ rw (c.if-ray-amind.true, lt-leb _ _ c.if-rays-ge6.false)) (omega arith),
    )

pub loop-at-smaller-else-ray-amind : goal.loop-at-smaller-else-ray-amind
loop-at-smaller-else-ray-amind c =
    omega (arith, next_bounds _ _ _ _ c.try_pair-pair.ensures c.next_pair-at.ensures, c.loop-at-test.true)

pub loop-at-preserved-else-ray-amind : goal.loop-at-preserved-else-ray-amind
unfolding after_of place_by
loop-at-preserved-else-ray-amind c =
    let n = next_bounds _ _ _ _ c.try_pair-pair.ensures c.next_pair-at.ensures in (
      (omega arith, omega arith, c.loop-at.invariant.0.2),
      leads_more c.loop-at.invariant.1 (turn_tries _ _ _ _ _ c.loop-at-test.true c.if-rfx-at.false c.try_pair-pair.ensures c.next_pair-at.ensures (sym c.ray_given-ray.ensures ∙ c.in-Some.is) ∙ rw (c.if-ray-amind.false, c.abs.ensures)) (omega arith),
    )

pub loop-at-smaller : goal.loop-at-smaller
loop-at-smaller c =
    omega (arith, next_bounds _ _ _ _ c.try_pair-pair.ensures c.next_pair-at.ensures, c.loop-at-test.true)

pub loop-at-preserved : goal.loop-at-preserved
unfolding after_of
loop-at-preserved c =
    let n = next_bounds _ _ _ _ c.try_pair-pair.ensures c.next_pair-at.ensures in (
      (omega arith, omega arith, c.loop-at.invariant.0.2),
      leads_more c.loop-at.invariant.1 (turn_tries _ _ _ _ _ c.loop-at-test.true c.if-rfx-at.false c.try_pair-pair.ensures c.next_pair-at.ensures (sym c.ray_given-ray.ensures ∙ c.in_default.is)) (omega arith),
    )

pub returns : goal.returns
unfolding turn_of turn_by
returns c = c.found-2.ensures ∙ leads_done c.loop-at.invariant.1 (rw (le-leb _ _ c.loop-at-test.false)) (omega arith)
