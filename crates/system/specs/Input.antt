-- An input's name as it is printed.
use Rattle.std.specs.Prelude.{ℕ, cond, List, codes}
use Rattle.std.specs.Str.{bytes_eq}

abbrev pub shown_of : List ℕ → List ℕ
shown_of name = cond (bytes_eq name (codes "-")) (codes "standard input") name
