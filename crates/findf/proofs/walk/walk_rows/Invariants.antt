use Rattle.arith.proofs.RunLaws.{Leads}
use Rattle.findf.specs.Walk.{start}
use Rattle.findf.specs.Requires.{Foreseen}
use Rattle.findf.proofs.WalkLaws.{μ, Good}
use Rattle.findf.specs.Findf.{turn_of, walk_of}
use Rattle.findf.specs.Inputs.{inputs_of}
use Rattle.findf.proofs.walk.walk_rows.Given as goal

abbrev pub invariant-loop-w : goal.invariant-loop-w
invariant-loop-w l =
    let e = inputs_of l.e l.tables in
    Good e.nang l.w × (Leads (turn_of e) (start, l.fn.rfx) (μ l.w.label l.w) (l.w, l.rfx) (walk_of e l.fn.rfx) × Foreseen l.ahead)

abbrev pub decreases-loop-w : goal.decreases-loop-w
decreases-loop-w l = μ l.w.label l.w
