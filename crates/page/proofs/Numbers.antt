-- For `numbered`: the number of a refusal is a status. Assumes nothing.
use mathlib.Core.Path.{◌≡◌, refl}
use mathlib.Core.Bool.{Bool, true, false, ◌&&◌}
use mathlib.Core.List.{List, [], ◌∷◌, ◌++◌}
use Prim.Native.Nat.{ℕ, ◌≤◌}
use native.Mathlib.Omega.{arith}
use lib.Dec.{leb}
use lib.ListN.{length}
use borrow.Author.Tests.{leb-true, le-leb}
use Rattle.limits.specs.Limits.{broken}
use Rattle.job.specs.Job.{length_limits, refusal_of}
use Rattle.job.specs.Parts.{job_of, limits_of}
use Rattle.system.specs.Status.{is_status}

abbrev numbers : ℕ → List (ℕ × Bool) → Bool
numbers m [] = true
numbers m ((n, holds) ∷ ls) = leb n m && numbers m ls

both : (a b : Bool) → (a && b) ≡ true → (a ≡ true) × (b ≡ true)
both true b e = (refl, e)
both false b e = let z : ◌≡◌ {A = ℕ} 0 1 = cc in absurd (omega arith)

broken_most : (m : ℕ) (ls : List (ℕ × Bool)) → numbers m ls ≡ true → broken ls ≤ m
unfolding broken
broken_most m [] e = omega arith
broken_most m ((n, true) ∷ ls) e = broken_most m ls (both (leb n m) (numbers m ls) e).1
broken_most m ((n, false) ∷ ls) e = leb-true n m (both (leb n m) (numbers m ls) e).0

most_ten : (job : List ℕ) (room : ℕ) → refusal_of job room ≤ 10
most_ten job room = broken_most 10 (length_limits (length job) room ++ limits_of (job_of job)) refl

pub number_status : (job : List ℕ) (room : ℕ) {r : ℕ} → r ≡ refusal_of job room → is_status r ≡ true
number_status job room {r} e =
    let h : refusal_of job room ≤ 10 = most_ten job room in
    rw (le-leb r 10 (omega arith))
