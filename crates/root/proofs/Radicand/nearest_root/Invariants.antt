use Prim.Native.Nat.{◌+◌, ◌-◌, ◌*◌, ◌^◌, ◌<◌}
use Rattle.root.proofs.Radicand.nearest_root.Given as goal

abbrev pub invariant-loop-r : goal.invariant-loop-r
invariant-loop-r l = (l.r * l.r < l.self.w + l.r) × (l.r < 2 ^ 25)

abbrev pub decreases-loop-r : goal.decreases-loop-r
decreases-loop-r l = 2 ^ 24 - l.r
