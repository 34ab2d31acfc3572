-- For `across_cusp`: no slot. Assumes nothing.
use mathlib.Core.Path.{◌≡◌}
use mathlib.Core.Bool.{false}
use mathlib.Core.List.{List}
use Prim.Native.Nat.{ℕ, ◌≤◌}
use Rattle.view.proofs.ViewLaws.{slot_past}
use Rattle.crossing.specs.Crossing.{across_cusp}

-- past the last slot
pub past : (job answer : List ℕ) (s : ℕ) → 6 ≤ s → false ≡ across_cusp job answer s
unfolding across_cusp
past job answer s h = rw (← slot_past job answer s h)
