-- A page of text, as a caller sees it.
use Rattle.std.specs.Prelude.{ℕ, ◌≡◌, ◌-◌, List, [], ◌++◌, length, take, drop}
use Rattle.rounding.specs.Decimals.{digits}

-- what is written, the lent bytes behind it, and the name of the loan
pub record Written : Type 0 where
  pub text : List ℕ
  pub rest : List ℕ
  pub loan : ℕ

-- nothing yet, on these bytes
abbrev pub blank : List ℕ → ℕ → Written
blank bytes loan = record { text = []; rest = bytes; loan = loan }

-- the lent bytes as they stand: what is written, then those behind it
abbrev pub bytes_of : Written → List ℕ
bytes_of p = p.text ++ p.rest

-- the text s behind it, as far as there is room; no other byte changes
unfoldable pub added : Written → List ℕ → Written
added p s = record { text = p.text ++ take (length p.rest) s; rest = drop (length s) p.rest; loan = p.loan }

-- no more than the first n bytes of it: the others stand behind it, as they are
unfoldable pub shortened : Written → ℕ → Written
shortened p n = record { text = take n p.text; rest = drop n p.text ++ p.rest; loan = p.loan }

-- the text, for how many bytes more there is room, and the name of the loan
pub record Used : Type 0 where
  pub text : List ℕ
  pub room : ℕ
  pub loan : ℕ

unfoldable pub used : Written → Used
used p = record { text = p.text; room = length p.rest; loan = p.loan }

unfoldable pub more : Used → List ℕ → Used
more u s = record { text = u.text ++ take u.room s; room = u.room - length s; loan = u.loan }

-- q is p with what it has behind p's text: what was written stays, there is room for no more than before, and the loan is the same
abbrev pub Extends : Written → Written → Type 0
Extends p q = more (used p) (drop (length (used p).text) (used q).text) ≡ used q

-- a word's eight hex digits
abbrev pub hex_text : ℕ → List ℕ
hex_text = digits 16 8
