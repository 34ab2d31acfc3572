-- A template gone through one field or byte a turn. Assumes nothing.
use Rattle.std.proofs.Common.{◌≡◌, ◌≢◌, ℕ, zero, suc, ◌+◌, ◌-◌, ◌<◌, ◌≤◌, List, [], ◌∷◌, ◌++◌, length, get_or, take, drop, refl, sym, ap, length-drop, ◌∙◌, add-one, arith}
use lib.Seq.{take_all}
use Rattle.std.proofs.lemmas.List.{get_or-drop}
use borrow.Author.Tests.{eq-eqb, ne_eqb}
use Rattle.decimal.specs.Filled.{field_text, filled_text}
use Rattle.decimal.specs.Requires.{Plain, RunOf}
use Rattle.decimal.specs.Page.{Written, added}
use Rattle.decimal.proofs.PageLaws.{added_added}

-- what a pattern leaves of a list is the rest of it
whole : (l : List ℕ) (n : ℕ) → n ≡ length l → take n l ≡ l
whole l n e = take_all n l (omega (arith, e))

pub filled_field : (v l : List ℕ) → 4 ≤ length l → get_or l 0 0 ≡ 64 → filled_text v l ≡ field_text v (get_or l 1 0) (get_or l 2 0) (get_or l 3 0) ++ filled_text v (take (length l - 4) (drop 4 l))
unfolding filled_text
filled_field v (a ∷ b ∷ c ∷ d ∷ t) n h = rw (eq-eqb a 64 h, whole t (length (a ∷ b ∷ c ∷ d ∷ t) - 4) (omega arith)) refl
filled_field v (a ∷ b ∷ c ∷ []) n h = absurd (omega arith)
filled_field v (a ∷ b ∷ []) n h = absurd (omega arith)
filled_field v (a ∷ []) n h = absurd (omega arith)
filled_field v [] n h = absurd (omega arith)

pub filled_short : (v l : List ℕ) → 1 ≤ length l → length l < 4 → filled_text v l ≡ get_or l 0 0 ∷ filled_text v (take (length l - 1) (drop 1 l))
unfolding filled_text
filled_short v (a ∷ b ∷ c ∷ d ∷ t) n m = absurd (omega arith)
filled_short v (a ∷ b ∷ c ∷ []) n m = refl
filled_short v (a ∷ b ∷ []) n m = refl
filled_short v (a ∷ []) n m = refl
filled_short v [] n m = absurd (omega arith)

pub filled_byte : (v l : List ℕ) → 1 ≤ length l → get_or l 0 0 ≢ 64 → filled_text v l ≡ get_or l 0 0 ∷ filled_text v (take (length l - 1) (drop 1 l))
unfolding filled_text
filled_byte v (a ∷ b ∷ c ∷ d ∷ t) n h = rw (ne_eqb a 64 h, whole (b ∷ c ∷ d ∷ t) (length (a ∷ b ∷ c ∷ d ∷ t) - 1) (omega arith)) refl
filled_byte v (a ∷ b ∷ c ∷ []) n h = refl
filled_byte v (a ∷ b ∷ []) n h = refl
filled_byte v (a ∷ []) n h = refl
filled_byte v [] n h = absurd (omega arith)

-- a byte that begins no field stands for itself, and so do those up to the next `@`
one : (v : List ℕ) (a : ℕ) (t : List ℕ) → (4 ≤ length (a ∷ t) → a ≢ 64) → filled_text v (a ∷ t) ≡ a ∷ filled_text v t
unfolding filled_text
one v a [] p = refl
one v a (b ∷ []) p = refl
one v a (b ∷ c ∷ []) p = refl
one v a (b ∷ c ∷ d ∷ t) p = rw (ne_eqb a 64 (p (omega arith))) refl

run : (v l : List ℕ) (n : ℕ) → n < length l → (4 ≤ length l → get_or l 0 0 ≢ 64) → ((k : ℕ) → k < n → get_or l (suc k) 0 ≢ 64) → filled_text v l ≡ take (suc n) l ++ filled_text v (drop (suc n) l)
run v [] n h p f = absurd (omega arith)
run v (a ∷ t) zero h p f = one v a t p
run v (a ∷ []) (suc n) h p f = absurd (omega arith)
run v (a ∷ b ∷ t) (suc n) h p f = one v a (b ∷ t) p ∙ ap (λ (l : List ℕ). a ∷ l) (run v (b ∷ t) n (omega arith) (λ _. f 0 (omega arith)) (λ k q. f (suc k) (omega (arith, q))))

-- the bytes behind the first, as a slice has them
behind : (l : List ℕ) (k : ℕ) → get_or (take (length l - 1) (drop 1 l)) k 0 ≡ get_or l (suc k) 0
behind l k =
    let place : 1 + k ≡ suc k = omega arith in
    ap (λ (m : List ℕ). get_or m k 0) (whole (drop 1 l) (length l - 1) (sym (length-drop 1 l))) ∙ get_or-drop 1 l k 0 ∙ ap (λ i. get_or l i 0) place

pub run_to : (l : List ℕ) (n : ℕ) → Plain l → n < length l → ((k : ℕ) → k < n → get_or (take (length l - 1) (drop 1 l)) k 0 ≢ 64) → RunOf l (n + 1)
run_to l n p h f = record { some = omega arith; within = omega (arith, h); text = λ v. rw add-one (run v l n h p.first (λ k q. rw (← behind l k) (f k q))) }

-- all of it
pub run_out : (l : List ℕ) → Plain l → ((k : ℕ) → k < length l - 1 → get_or (take (length l - 1) (drop 1 l)) k 0 ≢ 64) → RunOf l (length l)
run_out l p f =
    let some : 0 < length l = p.some in
    let end : length l - 1 + 1 ≡ length l = omega (arith, some) in
    rw (← end) (run_to l (length l - 1) p (omega (arith, some)) f)

-- a run is written, and the template goes on behind it
pub run_on : (p : Written) {q : Written} (v l : List ℕ) {m s : List ℕ} (n : ℕ) → RunOf l n → s ≡ take n l → m ≡ take (length l - n) (drop n l) → q ≡ added p s → added q (filled_text v m) ≡ added p (filled_text v l)
run_on p {q} v l {m} {s} n r e k g =
    let rest : m ≡ drop n l = k ∙ whole (drop n l) (length l - n) (sym (length-drop n l)) in
    rw (g, e, rest) (added_added p (take n l) (filled_text v (drop n l)) ∙ ap (added p) (sym (r.text v)))

-- of one turn
pub ruleset fields = (filled_field, filled_short, filled_byte)
