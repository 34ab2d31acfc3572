-- Lists by a function of the index, and with a part replaced.
use Rattle.std.specs.Prelude.{ℕ, zero, suc, List, [], ◌∷◌}
use Rattle.std.proofs.lemmas.List.Edits.{sets}

-- f 0, f 1, .. up to f (n - 1)
unfoldable pub tab : {A : Type 0} → ℕ → (ℕ → A) → List A
tab zero f = []
tab (suc n) f = f 0 ∷ tab n (λ k. f (suc k))

-- d with s in the place of its elements from index `at`; what would lie past d's end is not written
unfoldable pub put_at : {A : Type 0} → List A → ℕ → List A → List A
put_at d at s = sets d at s
