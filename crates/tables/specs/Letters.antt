-- Order 2: "one letter behind the layer (`t` table, `b` between, `c` cusp, `a` after a cusp)", as bytes.
use Rattle.std.specs.Prelude.{ℕ, Option, Some, None}
use Rattle.view.specs.declared.RowKind.{RowKind}
use Rattle.view.specs.declared.RowKind.TheVariants.{Exact, Interp, Cusp, NextCusp}

-- no row that the core wrote has no kind: `?`, as for a length that is not a number
abbrev pub letter_of : Option RowKind → ℕ
letter_of None = 63
letter_of (Some Exact) = 116
letter_of (Some Interp) = 98
letter_of (Some Cusp) = 99
letter_of (Some NextCusp) = 97
