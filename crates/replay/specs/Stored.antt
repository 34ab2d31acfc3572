-- What the functions that compare say: whether numbers are those of a record.
use Rattle.std.specs.Prelude.{◌≡◌, ℕ, ◌+◌, ◌*◌, ◌<◌, Bool, true, List, [], ◌∷◌, length, slice_index_or, to_bits, Float}
use Rattle.std.specs.Float.{binary32, nan}
use Rattle.words.specs.Words.{word_at}
use Rattle.esmod.specs.declared.EsHop.{EsHop}
use Rattle.esmod.specs.declared.EsModes.{EsModes}

-- the word of each of xs stands in the record r, one after the other from the byte `at`; d is what lies past the end of xs
unfoldable pub Stand : {A : Type 0} → (A → ℕ) → A → List A → List ℕ → ℕ → Type 0
Stand word d xs r at = (k : ℕ) → k < length xs → word (slice_index_or xs k d) ≡ word_at r (at + 4 * k)

-- b tells whether P holds
pub record Tells (b : Bool) (P : Type 0) : Type 0 where
  pub sound : b ≡ true → P
  pub complete : P → b ≡ true

-- the eight numbers of esmod's slots
abbrev pub slots_of : EsHop → EsHop → List Float
slots_of four five = four.b ∷ four.hn ∷ four.hp ∷ four.timed ∷ five.b ∷ five.hn ∷ five.hp ∷ five.timed ∷ []

-- esmod's answer stands in the record r behind its 26 words: the number, then the slots
pub record EsStored (m : EsModes) (r : List ℕ) : Type 0 where
  pub number : word_at r 104 ≡ m.refusal
  pub slots : Stand (to_bits binary32) nan (slots_of m.slot4 m.slot5) r 108
