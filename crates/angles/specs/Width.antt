-- The half-width that is promised of the arcs, in steps of 2 ^ -22: 2 ^ -20. The laws hold for every width from 1 to 4.
use Rattle.std.specs.Prelude.{ℕ}

abbrev pub half_width : ℕ
half_width = 4
