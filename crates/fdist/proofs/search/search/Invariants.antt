use Prim.Native.Nat.{suc, ◌-◌, ◌≤◌, ◌<◌}
use Rattle.arith.proofs.RunLaws.{Leads}
use Rattle.fdist.specs.Fdist.{rows_of, none_of, turn_of, run_of}
use Rattle.fdist.proofs.search.search.Given as goal

abbrev pub invariant-loop-at : goal.invariant-loop-at
invariant-loop-at l =
    let t = rows_of l.rfx in
    ((l.at ≤ 45) × (l.pairs ≤ l.at) × (l.rays < 6)) × Leads (turn_of t l.d l.amind l.freq) none_of (suc (44 - l.at)) (record { at = l.at; pairs = l.pairs; rays = l.rays; m = l.m }) (run_of t l.d l.amind l.freq)

abbrev pub decreases-loop-at : goal.decreases-loop-at
decreases-loop-at l = suc (44 - l.at)
