-- What private functions ask for: nothing that a reader must believe.
use Rattle.std.specs.Prelude.{ℕ, ◌+◌, ◌≤◌}
use Rattle.fdist.specs.declared.pairs.Pair.{Pair}
use Rattle.fdist.specs.declared.pairs.Pair.TheVariants.{Nothing, Row, Spot}

-- the row that pair i gives is one of its two
abbrev pub Within : ℕ → Pair → Type 0
Within i Nothing = Unit {0}
Within i (Row k) = (i ≤ k) × (k ≤ i + 1)
Within i (Spot x y) = Unit {0}
