-- The kinds of rows and their numbers. Order 2: "1 exact or filled because the lowest entry passes, 2 interpolated, 3 cusp, 4 the row after a cusp"; "Rows not written in this call have 0".
use Rattle.std.specs.Prelude.{ℕ, ◌≡◌, ◌<◌, ◌⊎◌, Result, MatchResult}
use Rattle.findf.specs.declared.NoRowKind.{NoRowKind}
use Rattle.findf.specs.declared.RowKind.{RowKind}
use Rattle.findf.specs.declared.RowKind.TheVariants.{Exact, Interp, Cusp, NextCusp}

abbrev pub number_of : RowKind → ℕ
number_of Exact = 1
number_of Interp = 2
number_of Cusp = 3
number_of NextCusp = 4

-- a number decoded: the kind that has it, or the number itself where none has
abbrev pub Decodes : ℕ → Result RowKind NoRowKind → Type 0
Decodes n r = MatchResult r (λ kind. number_of kind ≡ n) (λ e. (e.0 ≡ n) × ((n ≡ 0) ⊎ (4 < n)))
