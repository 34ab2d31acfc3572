-- A text with fields.
use Rattle.std.specs.Prelude.{ℕ, ◌-◌, min, cond, List, [], ◌∷◌, ◌++◌, leb, eqb, get_or}
use Rattle.rounding.specs.Decimals.{decimal, float_text, tenths_text, right_in}
use Rattle.decimal.specs.Page.{hex_text}

-- how far b is above `low`, 31 at most: 0 where it is below
abbrev pub count_of : ℕ → ℕ → ℕ
count_of b low = min (b - low) 31

-- value number b, A the first; 0 where there is none
abbrev pub value_of : List ℕ → ℕ → ℕ
value_of v b = cond (leb 65 b) (get_or v (b - 65) 0) 0

-- a field: which value, how it is shown (`t` tenths, `x` hex, `w` whole, else the decimals of a float), and its columns (from `a` on at most 1, 2, .., else right in 0, 1, ..)
unfoldable pub field_text : List ℕ → ℕ → ℕ → ℕ → List ℕ
field_text v which how wide =
    let w = value_of v which in
    cond (eqb how 116) (tenths_text w)
    (cond (eqb how 120) (hex_text w)
    (cond (eqb how 119) (right_in (count_of wide 48) (decimal w))
    (cond (leb 97 wide) (right_in 0 (float_text w (count_of how 48) (count_of wide 96)))
    (right_in (count_of wide 48) (float_text w (count_of how 48) (count_of wide 48))))))

-- `@` and the three bytes after it are a field; any other byte stands for itself
unfoldable pub filled_text : List ℕ → List ℕ → List ℕ
filled_text v [] = []
filled_text v (a ∷ []) = a ∷ []
filled_text v (a ∷ b ∷ []) = a ∷ b ∷ []
filled_text v (a ∷ b ∷ c ∷ []) = a ∷ b ∷ c ∷ []
filled_text v (a ∷ b ∷ c ∷ d ∷ t) = cond (eqb a 64) (field_text v b c d ++ filled_text v t) (a ∷ filled_text v (b ∷ c ∷ d ∷ t))
