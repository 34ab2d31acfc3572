use mathlib.Core.Path.{◌≡◌}
use mathlib.Core.Bool.{Bool, ◌&&◌, not}
use lib.IntN.{ℤ, pos}
use lib.Signed.{le_z}
use Rattle.limits.specs.Limits.{entries_within}
use Rattle.limits.proofs.entries_within.Given as goal

-- what the bits of the entries so far and the test of their sizes tell
abbrev pub kept : ℤ → Bool → Bool
kept bits above = le_z (pos 0) bits && not above

abbrev pub invariant-loop-entry : goal.invariant-loop-entry
invariant-loop-entry l = entries_within l.ifob l.entry-index ≡ kept l.bits l.above
