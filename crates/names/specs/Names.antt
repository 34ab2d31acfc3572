-- Names as they are shown.
use Rattle.std.specs.Prelude.{ℕ, ◌-◌, min, Bool, false, cond, ◌&&◌, ◌||◌, List, [], ◌∷◌, leb, ltb, eqb, length, drop, map}

-- a text with each byte outside 32 to 126 as `?`
abbrev pub plain_of : ℕ → ℕ
plain_of b = cond (leb 32 b && leb b 126) b 63

abbrev pub plains_of : List ℕ → List ℕ
plains_of = map plain_of

-- a name's last part, behind the last `/`
unfoldable pub slashed : List ℕ → Bool
slashed [] = false
slashed (b ∷ s) = eqb b 47 || slashed s

unfoldable pub last_of : List ℕ → List ℕ
last_of [] = []
last_of (b ∷ s) = cond (slashed (b ∷ s)) (last_of s) (b ∷ s)

-- cut from the left to `...` and 45 characters where it has more than 48
unfoldable pub cut_of : List ℕ → List ℕ
cut_of part = cond (ltb 48 (length part)) (46 ∷ 46 ∷ 46 ∷ plains_of (drop (length part - 45) part)) (plains_of part)

abbrev pub shown_of : List ℕ → List ℕ
shown_of name = cut_of (last_of name)

abbrev pub width_of : List ℕ → ℕ
width_of name = min (length (last_of name)) 48

-- a layer: 1 `E`, 2 `F1`, else `F2`
abbrev pub layer_of : ℕ → List ℕ
layer_of n = cond (eqb n 1) (69 ∷ []) (cond (eqb n 2) (70 ∷ 49 ∷ []) (70 ∷ 50 ∷ []))
