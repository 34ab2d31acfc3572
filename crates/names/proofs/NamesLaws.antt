-- For the functions of `names`: a text made plain a byte at a time, and a name's last part found from its end. And what is shown of a number's layer. Assumes nothing.
use Rattle.std.proofs.Common.{◌≡◌, ◌≢◌, refl, sym, ap, ◌∙◌, Bool, true, false, cond, ◌||◌, List, [], ◌∷◌, ◌++◌, ℕ, zero, suc, ◌+◌, ◌-◌, ◌<◌, ◌≤◌, arith, length, get_or, take, drop, add-one, length-drop}
use lib.Seq.{take-suc, take_all}
use native.Mathlib.Nat.{le_of_suc-le-suc}
use Rattle.std.proofs.lemmas.List.{get_or-drop}
use lib.Dec.{eqb}
use borrow.Author.Tests.{eq-eqb, ne_eqb}
use Rattle.view.specs.declared.Layer.TheVariants.{E, F1, F2}
use Rattle.view.specs.View.{layer_number, layer_by}
use Rattle.names.specs.Names.{plain_of, plains_of, slashed, last_of, layer_of}

plains_after : (s t : List ℕ) → plains_of s ++ plains_of t ≡ plains_of (s ++ t)
plains_after [] t = refl
plains_after (b ∷ s) t = ap (λ (l : List ℕ). plain_of b ∷ l) (plains_after s t)

-- one byte more
pub plains_next : (s : List ℕ) (i : ℕ) → i < length s → plains_of (take i s) ++ (plain_of (get_or s i 0) ∷ []) ≡ plains_of (take (i + 1) s)
plains_next s i h = plains_after (take i s) (get_or s i 0 ∷ []) ∙ ap plains_of (rw (add-one, take-suc s i 0 h) refl)

-- from k to the end
pub to_end : (s : List ℕ) (k : ℕ) → take (length s - k) (drop k s) ≡ drop k s
to_end s k = take_all (length s - k) (drop k s) (rw length-drop (omega arith))

-- no `/` in it: all of it is the last part
all_last : (s : List ℕ) → slashed s ≡ false → last_of s ≡ s
unfolding last_of
all_last [] e = refl
all_last (b ∷ s) e = rw e refl

-- no byte of it is a `/`
slash_none : (s : List ℕ) → ((k : ℕ) → k < length s → get_or s k 0 ≢ 47) → slashed s ≡ false
unfolding slashed
slash_none [] n = refl
slash_none (b ∷ s) n = rw (ne_eqb b 47 (n 0 (omega arith))) (slash_none s (λ k h. n (suc k) (omega arith)))

slash_some : (s : List ℕ) (i : ℕ) → i < length s → get_or s i 0 ≡ 47 → slashed s ≡ true
unfolding slashed
slash_some [] i h e = absurd (omega arith)
slash_some (b ∷ s) zero h e = rw (eq-eqb b 47 e) refl
slash_some (b ∷ s) (suc i) h e = go (eqb b 47) (slash_some s i (le_of_suc-le-suc h) e)
  where
    go : (q : Bool) → slashed s ≡ true → (q || slashed s) ≡ true
    go true j = refl
    go false j = j

last_by : (s : List ℕ) (i : ℕ) → i < length s → get_or s i 0 ≡ 47 → slashed (drop (suc i) s) ≡ false → drop (suc i) s ≡ last_of s
unfolding last_of
last_by [] i h e n = absurd (omega arith)
last_by (b ∷ s) zero h e n = rw (slash_some (b ∷ s) 0 h e) (sym (all_last s n))
last_by (b ∷ s) (suc i) h e n = rw (slash_some (b ∷ s) (suc i) h e) (last_by s i (le_of_suc-le-suc h) e n)

-- behind the last `/`, or all of it where there is none
pub last_at : (s : List ℕ) (i : ℕ) → i < length s → get_or s i 0 ≡ 47 → ((k : ℕ) → i + 1 ≤ k → k < length s → get_or s k 0 ≢ 47) → take (length s - (i + 1)) (drop (i + 1) s) ≡ last_of s
last_at s i h e n =
    let none : slashed (drop (suc i) s) ≡ false = slash_none (drop (suc i) s) (λ k l. rw (get_or-drop (suc i) s k 0) (n (suc i + k) (omega arith) (omega (arith, length-drop (suc i) s)))) in
    to_end s (i + 1) ∙ rw add-one (last_by s i h e none)

pub last_whole : (s : List ℕ) → ((k : ℕ) → k < length s → get_or s k 0 ≢ 47) → s ≡ last_of s
last_whole s n = sym (all_last s (slash_none s n))

-- a number's layer is shown as the number is: no number is lost by asking for a layer
pub layer_shown : (n : ℕ) → layer_of (layer_number (layer_by n)) ≡ layer_of n
layer_shown n = by (eqb n 1) (eqb n 2)
  where
    by : (a b : Bool) → layer_of (layer_number (cond a E (cond b F1 F2))) ≡ cond a (69 ∷ []) (cond b (70 ∷ 49 ∷ []) (70 ∷ 50 ∷ []))
    by true b = refl
    by false true = refl
    by false false = refl
