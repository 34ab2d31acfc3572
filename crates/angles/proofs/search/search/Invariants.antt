use Rattle.std.proofs.Common.{◌-◌}
use Rattle.angles.specs.Requires.{holds}
use Rattle.angles.proofs.LeastLaws.{Between}
use Rattle.angles.proofs.search.search.Given as goal

abbrev pub invariant-loop-lo : goal.invariant-loop-lo
invariant-loop-lo g l = let m = g.A.Arc in Between (holds (m.low l.arc l.t) (m.high l.arc l.t)) m.top l.lo l.hi

abbrev pub decreases-loop-lo : goal.decreases-loop-lo
decreases-loop-lo g l = l.hi - l.lo
