-- For `word` and `put_word`: what a slice has from a place on, four bytes or fewer.
use Rattle.std.proofs.Common.{◌≡◌, ℕ, zero, suc, ◌+◌, ◌-◌, ◌*◌, ◌^◌, ◌<◌, ◌≤◌, min, List, [], ◌∷◌, ◌++◌, length, get_or, take, drop, refl, sym, ap, ◌∙◌, arith}
use Rattle.std.proofs.lemmas.List.{get_or-take, get_or-drop, get_or_append_left, get_or-append_right, drop-drop, length-take-le}
use Rattle.std.specs.List.{slice_range}
use mathlib.Core.List.{append-nil, append_assoc}
use native.Mathlib.Nat.{add-zero}
use Rattle.std.proofs.lemmas.Bool.{cases_lt}
use mathlib.Core.Logic.{inl, inr}
use lib.Seq.{take_all}
use lib.ListN.{get_or-eq_default, length-drop, drop_of_length-le}
use borrow.Rule.Slice.PartMut.{put_mid}
use Rattle.words.specs.Lists.{put_at}
use Rattle.words.specs.Words.{word_at}
use Rattle.words.proofs.ListLaws.{put_inside, put_past, put_cut}

rest_is : {A : Type 0} (s : List A) (at : ℕ) → take (length s - at) (drop at s) ≡ drop at s
rest_is s at = take_all (length s - at) (drop at s) (omega (arith, length-drop at s))

rest_at : (s : List ℕ) (at k : ℕ) → get_or (slice_range s at (length s)) k 0 ≡ get_or s (at + k) 0
rest_at s at k = ap (λ l. get_or l k 0) (rest_is s at) ∙ get_or-drop at s k 0

pub rest_long : {A : Type 0} (s : List A) (at : ℕ) → length (take (length s - at) (drop at s)) ≡ length s - at
rest_long s at = ap length (rest_is s at) ∙ length-drop at s

-- ---- a word by its bytes

by_bytes : (s four : List ℕ) (at : ℕ) → ((k : ℕ) → k < 4 → get_or four k 0 ≡ get_or s (at + k) 0) → get_or four 0 0 + get_or four 1 0 * 256 + get_or four 2 0 * 65536 + get_or four 3 0 * 16777216 ≡ word_at s at
unfolding word_at
by_bytes s four at f =
    let b0 : get_or four 0 0 ≡ get_or s at 0 = f 0 (omega arith) ∙ ap (λ n. get_or s n 0) (add-zero at) in
    omega (arith, b0, f 1 (omega arith), f 2 (omega arith), f 3 (omega arith))

-- four of them
pub word_whole : (s rest four : List ℕ) (at : ℕ) → rest ≡ slice_range s at (length s) → four ≡ take 4 rest → get_or four 0 0 + get_or four 1 0 * 256 + get_or four 2 0 * 65536 + get_or four 3 0 * 16777216 ≡ word_at s at
word_whole s rest four at r e = by_bytes s four at (λ k h. ap (λ l. get_or l k 0) (e ∙ ap (take 4) r) ∙ get_or-take 4 _ k 0 h ∙ rest_at s at k)

-- fewer, and noughts
abbrev pub noughts : List ℕ
noughts = 0 ∷ 0 ∷ 0 ∷ 0 ∷ []

noughts_at : (k : ℕ) → get_or noughts k 0 ≡ 0
noughts_at zero = refl
noughts_at (suc zero) = refl
noughts_at (suc (suc zero)) = refl
noughts_at (suc (suc (suc zero))) = refl
noughts_at (suc (suc (suc (suc k)))) = refl

filled_at : (rest : List ℕ) (n k : ℕ) → get_or (rest ++ drop n noughts) k 0 ≡ get_or rest k 0
filled_at rest n k = elim (cases_lt k (length rest)) [
  | inl h ↦ get_or_append_left rest _ 0 k h
  | inr h ↦ get_or-append_right rest _ (length rest) k 0 refl h ∙ get_or-drop n noughts (k - length rest) 0 ∙ noughts_at (n + (k - length rest)) ∙ sym (get_or-eq_default rest 0 h)
]

pub word_cut : (s rest four : List ℕ) (at n : ℕ) → rest ≡ slice_range s at (length s) → four ≡ rest ++ drop n noughts → get_or four 0 0 + get_or four 1 0 * 256 + get_or four 2 0 * 65536 + get_or four 3 0 * 16777216 ≡ word_at s at
word_cut s rest four at n r e = by_bytes s four at (λ k h. ap (λ l. get_or l k 0) e ∙ filled_at rest n k ∙ ap (λ l. get_or l k 0) r ∙ rest_at s at k)

-- none
pub word_past : (s : List ℕ) (at : ℕ) → length s ≤ at → 0 ≡ word_at s at
unfolding word_at
word_past s at h = omega (arith, get_or-eq_default s 0 {n = at} h, get_or-eq_default s 0 {n = at + 1} (omega (arith, h)), get_or-eq_default s 0 {n = at + 2} (omega (arith, h)), get_or-eq_default s 0 {n = at + 3} (omega (arith, h)))

-- ---- its bytes written

put_rest : {A : Type 0} (d ys : List A) (at : ℕ) → put_mid at (length d - at) d ys ≡ take at d ++ ys
put_rest d ys at =
    let none : drop (length d - at) (drop at d) ≡ [] = drop_of_length-le (drop at d) {i = length d - at} (omega (arith, length-drop at d)) in
    rw none (ap (λ l. take at d ++ l) (append-nil ys))

inside : {A : Type 0} (d s : List A) (at : ℕ) → at + length s ≤ length d → put_at d at s ≡ take at d ++ (s ++ drop (at + length s) d)
inside d s at h = put_inside d at s h ∙ append_assoc (take at d) s (drop (at + length s) d)

pub put_whole_word : {A : Type 0} (d s : List A) (at : ℕ) → at + length s ≤ length d → put_mid at (length d - at) d (s ++ drop (length s) (take (length d - at) (drop at d))) ≡ put_at d at s
put_whole_word d s at h = put_rest d _ at ∙ rw (rest_is d at, drop-drop) (sym (inside d s at h))

-- fewer than four have room
pub put_cut_word : {A : Type 0} (d s ys : List A) (at n : ℕ) → at ≤ length d → n ≡ length (take (length d - at) (drop at d)) → n ≤ length s → ys ≡ take n s → put_mid at (length d - at) d ys ≡ put_at d at s
put_cut_word d s ys at n within e few cut =
    let room : n ≡ length d - at = e ∙ rest_long d at in
    let part : length (take n s) ≡ n = length-take-le n s few in
    let none : drop (at + length (take n s)) d ≡ [] = drop_of_length-le d {i = at + length (take n s)} (omega (arith, room, part, within)) in
    let put : put_at d at (take n s) ≡ take at d ++ (take n s ++ drop (at + length (take n s)) d) = inside d (take n s) at (omega (arith, room, part, within)) in
    put_rest d ys at ∙ rw (cut) (sym (ap (λ l. take at d ++ l) (append-nil (take n s)))) ∙ sym (rw none at put) ∙ sym (put_cut d at n s (omega (arith, room, part, within)))

-- ---- a place that need not fit: past every slice

pub word_place : (s : List ℕ) (n : ℕ) → length s < 2 ^ 64 → word_at s (min n (2 ^ 64 - 1)) ≡ word_at s n
word_place s n h = elim (cases_lt n (2 ^ 64)) [
  | inl k ↦ ap (word_at s) (omega arith)
  | inr k ↦ sym (word_past s _ (omega arith)) ∙ word_past s n (omega arith)
]

pub put_place : {A : Type 0} (d : List A) (n : ℕ) (s : List A) → length d < 2 ^ 64 → put_at d (min n (2 ^ 64 - 1)) s ≡ put_at d n s
put_place d n s h = elim (cases_lt n (2 ^ 64)) [
  | inl k ↦ ap (λ at. put_at d at s) (omega arith)
  | inr k ↦ put_past d _ s (omega arith) ∙ sym (put_past d n s (omega arith))
]
