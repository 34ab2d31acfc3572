-- Laws of the largest of some numbers and of how many rows are so. Assumes nothing.
use Rattle.std.proofs.Common.{◌≡◌, ℕ, Bool, true, false, cond, ◌+◌, max, refl, add-one, ap}
use Rattle.std.specs.Int.{from_bool}
use Rattle.curve.specs.Rows.{count_of, largest}

pub largest_none : (f : ℕ → ℕ) → largest f 0 ≡ 0
unfolding largest
largest_none f = refl

pub largest_next : (f : ℕ → ℕ) (n : ℕ) → largest f (n + 1) ≡ max (largest f n) (f n)
unfolding largest
largest_next f n = rw add-one refl

-- what a loop over them needs
pub ruleset largest_steps = (largest_none, largest_next)

pub count_none : (p : ℕ → Bool) → count_of p 0 ≡ 0
unfolding count_of
count_none p = refl

number : (b : Bool) → cond b 1 0 ≡ from_bool b
number b = elim b as (λ v. cond v 1 0 ≡ from_bool v) [ true ↦ refl | false ↦ refl ]

pub count_next : (p : ℕ → Bool) (n : ℕ) → count_of p (n + 1) ≡ count_of p n + from_bool (p n)
unfolding count_of
count_next p n = rw add-one (ap (λ (k : ℕ). count_of p n + k) (number (p n)))

pub ruleset count_steps = (count_none, count_next)
