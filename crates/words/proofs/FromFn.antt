-- What `array::from_fn` makes, by a closure that leaves what it captures as it was.
use Rattle.std.proofs.Common.{◌≡◌, ℕ, zero, suc, ◌+◌, ◌<◌, List, get_or, refl, sym, ap, subst, ◌∙◌, arith}
use Rattle.std.specs.Array.{IsFromFnResult, IsFromFnResultFrom}
use denote.Param.Members.{Mut, Called}
use Rattle.words.specs.Lists.{tab}
use Rattle.words.proofs.ListLaws.{tab_of}

module _ {F A : Type 0} (g : Mut F (ℕ × Unit {0}) A) (f : F) (h : ℕ → A) (step : (i : ℕ) (y : A) (q : F) → Called g f (i, tt) y q → (y ≡ h i) × (q ≡ f)) (ys : List A) where
  each : (n i : ℕ) (p : F) → p ≡ f → IsFromFnResultFrom g p ys i n → (j k : ℕ) → k < n → j ≡ i + k → get_or ys j (h j) ≡ h j
  each zero i p e r j k l s = absurd (omega (arith, l))
  each (suc n) i p e (q, y, at, call, rest) j zero l s =
      let m : j ≡ i = omega (arith, s) in
      let made = step i y q (subst (λ x. Called g x (i, tt) y q) e call) in
      ap (λ n. get_or ys n (h j)) m ∙ at.1 (h j) ∙ made.0 ∙ ap h (sym m)
  each (suc n) i p e (q, y, at, call, rest) j (suc k) l s =
      let made = step i y q (subst (λ x. Called g x (i, tt) y q) e call) in
      each n (i + 1) q made.1 rest j k (omega (arith, l)) (omega (arith, s))

  pub made_by : (n : ℕ) → IsFromFnResult g f ys n → ys ≡ tab n h
  made_by n r = tab_of n h ys r.long (λ i k. each n 0 f refl r.each i i k (omega arith))
