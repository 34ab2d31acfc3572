-- For the comparing functions of `record`: A loop that compares numbers with the words of a record, whatever the numbers' type.
use Rattle.std.proofs.Common.{◌≡◌, ℕ, ◌+◌, ◌*◌, ◌<◌, ◌≤◌, Bool, true, false, ◌&&◌, T, eqb, List, length, get_or, sym, refl, ◌∙◌, subst, arith, below_none, below_more, eq-eqb, eqb-true}
use lib.Ieee.{binary32, nan, to_bits}
use Rattle.words.specs.Words.{word_at}
use Rattle.esmod.specs.declared.EsModes.{EsModes}
use Rattle.replay.specs.Stored.{Stand, Tells, slots_of, EsStored}

-- the first i of xs have their words in the record
pub record Passed {A : Type 0} (word : A → ℕ) (d : A) (xs : List A) (r : List ℕ) (at i : ℕ) : Type 0 where
  pub within : i ≤ length xs
  pub right : (k : ℕ) → k < i → word (get_or xs k d) ≡ word_at r (at + 4 * k)

never : {X : Type 0} → false ≡ true → X
never e = absurd (subst T (sym e) tt)

-- before the first turn
pub none : {A : Type 0} (word : A → ℕ) (d : A) (xs : List A) (r : List ℕ) (at : ℕ) → Passed word d xs r at 0
none word d xs r at = record { within = omega arith; right = below_none _ }

module _ {A : Type 0} {word : A → ℕ} {d : A} {xs : List A} {r : List ℕ} {at i v w : ℕ} where
  -- a turn that finds the same
  pub more : Passed word d xs r at i → i < length xs → v ≡ word (get_or xs i d) → w ≡ word_at r (at + 4 * i) → v ≡ w → Passed word d xs r at (i + 1)
  more was h ev ew e = record { within = omega arith; right = below_more _ i was.right (sym ev ∙ e ∙ ew) }

  -- a turn that finds another
  pub differ : Passed word d xs r at i → i < length xs → v ≡ word (get_or xs i d) → w ≡ word_at r (at + 4 * i) → (v ≡ w → ⊥) → Tells false (Stand word d xs r at)
  unfolding Stand
  differ was h ev ew ne = record { sound = never; complete = λ all. absurd (ne (ev ∙ all i h ∙ sym ew)) }

-- after the last turn
pub agree : {A : Type 0} {word : A → ℕ} {d : A} {xs : List A} {r : List ℕ} {at i : ℕ} → Passed word d xs r at i → length xs ≤ i → Tells true (Stand word d xs r at)
unfolding Stand
agree was h = record { sound = λ e k l. was.right k (omega arith); complete = λ p. refl }

-- esmod's answer m, of which the number and the slots are compared
pub es_tells : {m meant : EsModes} {r : List ℕ} {w : ℕ} {b : Bool} → m ≡ meant → w ≡ word_at r 104 → Tells b (Stand (to_bits binary32) nan (slots_of m.slot4 m.slot5) r 108) → Tells (eqb w m.refusal && b) (EsStored meant r)
es_tells {m} {meant} {r} {w} {b} e ew t = subst (λ (x : EsModes). Tells (eqb w m.refusal && b) (EsStored x r)) e (by (eqb w m.refusal) (eqb-true w m.refusal) (eq-eqb w m.refusal))
  where
    by : (n : Bool) → (n ≡ true → w ≡ m.refusal) → (w ≡ m.refusal → n ≡ true) → Tells (n && b) (EsStored m r)
    by true f g = record { sound = λ h. record { number = sym ew ∙ f refl; slots = t.sound h }; complete = λ s. t.complete s.slots }
    by false f g = record { sound = never; complete = λ s. g (ew ∙ s.number) }
