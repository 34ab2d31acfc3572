use mathlib.Core.Path.{◌≡◌}
use Prim.Native.Nat.{◌≤◌, ◌<◌, ◌-◌, ◌*◌, ◌^◌}
use Rattle.parse.proofs.nearest.doubled_to.Given as goal

abbrev pub invariant-loop-x : goal.invariant-loop-x
invariant-loop-x l = (0 < l.x) × (l.x < 2 * l.least) × (l.x ≡ l.n * 2 ^ l.times) × (l.times ≤ l.x)

abbrev pub decreases-loop-x : goal.decreases-loop-x
decreases-loop-x l = l.least - l.x
