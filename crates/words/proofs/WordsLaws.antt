-- Laws of words and their bytes: words written one after the other, and read back.
-- That a float and a signed number come back from their words: lib.Ieee.Bits.{of_bits-to_bits, to_bits-of_bits}, mir.Facts.{to_z-of_z, of_z-to_z}.
use mathlib.Core.Path.{◌≡◌, refl, sym, ap, ◌∙◌}
use mathlib.Core.List.{List, [], ◌∷◌, ◌++◌, append_assoc}
use Prim.Native.Nat.{ℕ, zero, suc, ◌+◌, ◌*◌, ◌/◌, ◌%◌, ◌^◌, ◌<◌, ◌≤◌}
use native.Mathlib.Numerals.{add-one}
use native.Mathlib.Nat.{add_assoc, mod-eq_of_lt}
use native.Mathlib.Omega.{arith}
use lib.Arith.{mod-mul}
use lib.Dec.{lit<}
use lib.ListN.{length, get_or, take}
use lib.Seq.{take_all, take-suc, length-take-le, get_or-append-add}
use lib.Ieee.{nan, binary32, to_bits}
use Rattle.words.specs.Lists.{put_at}
use Rattle.words.proofs.ListLaws.{put_put}
use Rattle.words.specs.Words.{word_at, bytes_of_word, bytes_of}

-- worked: the word of 01 02 03 04; the bits of NaN
word_of_1_2_3_4 : word_at (1 ∷ 2 ∷ 3 ∷ 4 ∷ []) 0 ≡ 0x0403_0201
unfolding word_at
word_of_1_2_3_4 = refl

bits_of_nan : to_bits binary32 nan ≡ 0x7fc0_0000
unfolding to_bits
bits_of_nan = refl

pub bytes_one : (w : ℕ) → bytes_of (w ∷ []) ≡ bytes_of_word w
unfolding bytes_of bytes_of_word
bytes_one w = refl

pub bytes_append : (ws vs : List ℕ) → bytes_of (ws ++ vs) ≡ bytes_of ws ++ bytes_of vs
unfolding bytes_of
bytes_append [] vs = refl
bytes_append (w ∷ ws) vs = rw (bytes_append ws vs) (sym (append_assoc (bytes_of_word w) (bytes_of ws) (bytes_of vs)))

pub length_bytes : (ws : List ℕ) → length (bytes_of ws) ≡ 4 * length ws
unfolding bytes_of bytes_of_word
length_bytes [] = refl
length_bytes (w ∷ ws) = omega (arith, length_bytes ws)

-- words put after words, at the offset n
pub put_words_put : (d : List ℕ) (at : ℕ) (ws vs : List ℕ) (n : ℕ) → n ≡ at + 4 * length ws → put_at (put_at d at (bytes_of ws)) n (bytes_of vs) ≡ put_at d at (bytes_of (ws ++ vs))
put_words_put d at ws vs n e = rw (e, ← length_bytes ws, bytes_append) (put_put d at (bytes_of ws) (bytes_of vs))

-- `Written d at ws l i`: l is d with the first i of the words ws put from `at`
pub record Written (d : List ℕ) (at : ℕ) (ws l : List ℕ) (i : ℕ) : Type 0 where
  pub within : i ≤ length ws
  pub same : l ≡ put_at d at (bytes_of (take i ws))

-- before the first turn
pub written_none : (d : List ℕ) (at : ℕ) (ws : List ℕ) → Written d at ws d 0
unfolding bytes_of put_at
written_none d at ws = record { within = omega arith; same = refl }

-- a turn that puts word i, at whatever default z it is read
pub written_more : {d : List ℕ} {at : ℕ} {ws l l' : List ℕ} {i w : ℕ} (z : ℕ) → Written d at ws l i → i < length ws → w ≡ get_or ws i z → l' ≡ put_at l (at + 4 * i) (bytes_of_word w) → Written d at ws l' (i + 1)
written_more {d} {at} {ws} {l} {l'} {i} {w} z was h e put = record {
  within = omega arith;
  same =
      let front : length (take i ws) ≡ i = length-take-le i ws was.within in
      put ∙ rw (was.same, e, add-one, take-suc ws i z, ← bytes_one (get_or ws i z)) (put_words_put d at (take i ws) (get_or ws i z ∷ []) (at + 4 * i) (rw front));
}

-- after the last turn
pub written_all : {d : List ℕ} {at : ℕ} {ws l : List ℕ} {i : ℕ} → Written d at ws l i → length ws ≤ i → l ≡ put_at d at (bytes_of ws)
written_all {d} {at} {ws} {l} {i} was h = was.same ∙ ap (λ (vs : List ℕ). put_at d at (bytes_of vs)) (take_all i ws h)

-- a word of the second of two lists
pub word_append : (s t : List ℕ) (at : ℕ) → word_at (s ++ t) (length s + at) ≡ word_at t at
unfolding word_at
word_append s t at = simp (add_assoc, get_or-append-add)

-- a word comes back from its bytes
pub word_back : (ws : List ℕ) (i : ℕ) → get_or ws i 0 < 2 ^ 32 → word_at (bytes_of ws) (4 * i) ≡ get_or ws i 0
unfolding word_at bytes_of_word bytes_of
word_back [] i h = refl
word_back (w ∷ ws) zero h =
    let byte : (c : ℕ) → 0 < c → w % (2 ^ 8 * c) ≡ w / c % 2 ^ 8 * c + w % c = λ c k. mod-mul w (lit< tt) k in
    omega (arith, h, mod-eq_of_lt h, byte (2 ^ 8) (lit< tt), byte (2 ^ 16) (lit< tt), byte (2 ^ 24) (lit< tt))
word_back (w ∷ ws) (suc i) h =
    let e : 4 * suc i ≡ 4 + 4 * i = omega arith in
    rw e (word_append (bytes_of_word w) (bytes_of ws) (4 * i) ∙ word_back ws i h)
