-- "The bytes of a job": words of 4 bytes, least byte first. A float is `of_bits binary32` of its word and its word is `to_bits binary32` of it, 7FC00000 for NaN (lib.Ieee);
-- a signed number is `to_z w32` of its word and its word `of_z w32` of it, in two's complement (mir.Val).
use Rattle.std.specs.Prelude.{ℕ, ◌+◌, ◌*◌, ◌/◌, ◌%◌, ◌^◌, List, [], ◌∷◌, ◌++◌, get_or}

-- the word whose first byte is at index `at`; past the end bytes are 0
unfoldable pub word_at : List ℕ → ℕ → ℕ
word_at s at = get_or s at 0 + 2 ^ 8 * get_or s (at + 1) 0 + 2 ^ 16 * get_or s (at + 2) 0 + 2 ^ 24 * get_or s (at + 3) 0

-- the four bytes of a word
unfoldable pub bytes_of_word : ℕ → List ℕ
bytes_of_word w = w % 2 ^ 8 ∷ w / 2 ^ 8 % 2 ^ 8 ∷ w / 2 ^ 16 % 2 ^ 8 ∷ w / 2 ^ 24 % 2 ^ 8 ∷ []

-- the bytes of words, one word after the other
unfoldable pub bytes_of : List ℕ → List ℕ
bytes_of [] = []
bytes_of (w ∷ ws) = bytes_of_word w ++ bytes_of ws
