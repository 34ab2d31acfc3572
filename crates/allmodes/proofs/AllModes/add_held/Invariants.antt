use Prim.Native.Nat.{◌+◌, ◌-◌, ◌≤◌}
use mathlib.Core.Path.{◌≡◌}
use mathlib.Core.List.{foldl}
use lib.ListN.{length}
use Rattle.allmodes.specs.AllModes.{add_slot, held}
use Rattle.allmodes.proofs.AllModes.add_held.Given as goal

abbrev pub invariant-loop-i : goal.invariant-loop-i
invariant-loop-i l =
    (l.self.nmmod + length (held l.zon.hp l.i (l.to - l.i)) ≤ 20)
    × (foldl (add_slot l.zon) l.self (held l.zon.hp l.i (l.to - l.i)) ≡ foldl (add_slot l.zon) l.initial.self (held l.zon.hp l.from (l.to - l.from)))
