-- A chain of `check` with `?`: what its outcome says of the list of limits. Assumes nothing.
use mathlib.Core.Path.{◌≡◌, refl, sym, ap, ◌∙◌}
use mathlib.Core.Bool.{Bool, true, false}
use mathlib.Core.List.{List, [], ◌∷◌}
use Prim.Native.Nat.{ℕ}
use native.Mathlib.Omega.{arith}
use Rattle.std.specs.Prelude.{Result, Ok, Err, ⊤}
use Rattle.limits.specs.declared.Refusal.{Refusal}
use Rattle.limits.specs.Limits.{broken, number_of, code_of, outcome_of}

-- by any numbers of what is said where a test fails
module _ {E : Type 0} (number : E → ℕ) where
  pub refused_by : (holds : Bool) (said : E) (ls : List (ℕ × Bool)) {e : E} → outcome_of holds said ≡ Err e → number e ≡ broken ((number said, holds) ∷ ls)
  unfolding broken
  refused_by true said ls p = absurd (let z : ◌≡◌ {A = ℕ} 0 1 = cc in omega arith)
  refused_by false said ls p = cc

  pub passed_by : (holds : Bool) (said : E) (ls : List (ℕ × Bool)) {x : ⊤} → outcome_of holds said ≡ Ok x → broken ((number said, holds) ∷ ls) ≡ broken ls
  unfolding broken
  passed_by true said ls p = refl
  passed_by false said ls p = absurd (let z : ◌≡◌ {A = ℕ} 0 1 = cc in omega arith)

-- a limit that is broken is the first broken
pub refused : (holds : Bool) (r : Refusal) (ls : List (ℕ × Bool)) {e : Refusal} → outcome_of holds r ≡ Err e → number_of e ≡ broken ((number_of r, holds) ∷ ls)
refused = refused_by number_of

-- past a limit that holds
pub passed : (holds : Bool) (r : Refusal) (ls : List (ℕ × Bool)) {x : ⊤} → outcome_of holds r ≡ Ok x → broken ((number_of r, holds) ∷ ls) ≡ broken ls
passed = passed_by number_of

pub last : (holds : Bool) (r : Refusal) → code_of (outcome_of holds r) ≡ broken ((number_of r, holds) ∷ [])
unfolding broken
last true r = refl
last false r = refl

pub none : 0 ≡ broken []
unfolding broken
none = refl

pub ruleset chain = (refused, passed, last, none)

-- ---- what an outcome with a given number says

pub accepted : {A : Type 0} {a : Result A Refusal} {x : A} {n : ℕ} → code_of a ≡ n → a ≡ Ok x → n ≡ 0
accepted e k = sym e ∙ ap code_of k

numbered : (r : Refusal) → number_of r ≡ 0 → ⊥
numbered r e = grind (arith, e)

pub not_accepted : {A : Type 0} {a : Result A Refusal} {r : Refusal} {n : ℕ} → code_of a ≡ n → a ≡ Err r → n ≡ 0 → ⊥
not_accepted {r = r} e k z = numbered r (sym (ap code_of k) ∙ e ∙ z)

-- what the outcome says of the test
pub held : {E : Type 0} {a : Result ⊤ E} {x : ⊤} (holds : Bool) (said : E) → a ≡ outcome_of holds said → a ≡ Ok x → holds ≡ true
held true said e k = refl
held false said e k = absurd (let z : ◌≡◌ {A = ℕ} 0 1 = cc in omega arith)
