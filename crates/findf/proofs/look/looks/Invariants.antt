use Rattle.std.proofs.Common.{suc, ◌+◌, ◌-◌, ◌≤◌}
use Rattle.arith.proofs.RunLaws.{Leads}
use Rattle.findf.specs.declared.walk.Label.TheVariants.{Search}
use Rattle.findf.specs.Look.{looked, look_of, looks_of}
use Rattle.findf.proofs.look.looks.Given as goal

abbrev pub invariant-loop-jfhz : goal.invariant-loop-jfhz
invariant-loop-jfhz l =
    ((1 ≤ l.at) × ((l.at ≤ l.ihigh) × (l.n ≤ l.looks + l.at)))
    × Leads (look_of l.ifob l.jfhz l.column l.ilow l.ihigh) (looked Search l.ih l.looks) (suc (l.ihigh - l.at)) (l.at, l.n)
    (looks_of l.ifob l.jfhz l.column l.ilow l.ihigh l.ih l.looks)

abbrev pub decreases-loop-jfhz : goal.decreases-loop-jfhz
decreases-loop-jfhz l = suc (l.ihigh - l.at)
