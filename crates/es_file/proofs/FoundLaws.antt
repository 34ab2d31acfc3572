-- For `found`: a chain of `check` with `?` over the words of a file, and over its points. Assumes nothing.
use mathlib.Core.Path.{◌≡◌, refl, sym, ◌∙◌}
use mathlib.Core.Bool.{Bool, true, false}
use mathlib.Core.List.{List, [], ◌∷◌, ◌++◌}
use Prim.Native.Nat.{ℕ, zero, suc, ◌+◌, ◌-◌, ◌<◌}
use native.Mathlib.Omega.{arith}
use native.Mathlib.Numerals.{add-one}
use Rattle.std.specs.Prelude.{Result, Ok, Err, ⊤}
use Rattle.limits.specs.Limits.{broken, outcome_of}
use Rattle.limits.proofs.LimitsLaws.{broken_past, broken_first}
use Rattle.limits.proofs.ChainLaws.{refused_by, passed_by}
use Rattle.es_file.proofs.FileLaws.{numbered_points}
use Rattle.es_file.specs.File.{found_by, point_tests, points_tests, last_tests}

pub refused : (holds : Bool) (i : ℕ) (ls : List (ℕ × Bool)) {e : ℕ} → outcome_of holds i ≡ Err e → e + 1 ≡ broken ((i + 1, holds) ∷ ls)
refused = refused_by (λ i. i + 1)

pub passed : (holds : Bool) (i : ℕ) (ls : List (ℕ × Bool)) {x : ⊤} → outcome_of holds i ≡ Ok x → broken ((i + 1, holds) ∷ ls) ≡ broken ls
passed = passed_by (λ i. i + 1)

pub last : (holds : Bool) (i : ℕ) → found_by (outcome_of holds i) ≡ broken ((i + 1, holds) ∷ [])
unfolding broken
last true i = refl
last false i = refl

pub ruleset places = (refused, passed, last)

-- what is found in some of the points is found in all
first : (file : List ℕ) (i more n : ℕ) → broken (points_tests file i) ≡ suc n → broken (points_tests file (i + more)) ≡ suc n
unfolding points_tests
first file i zero n e = let z : i + 0 ≡ i = omega arith in rw z e
first file i (suc more) n e =
    let z : i + suc more ≡ suc (i + more) = omega arith in
    rw z (broken_first (points_tests file (i + more)) (point_tests file (i + more)) n (numbered_points file (i + more)) (first file i more n e))

-- a point more: none is found before it
more : (file : List ℕ) (i : ℕ) → broken (points_tests file i) ≡ 0 → broken (points_tests file (suc i)) ≡ broken (point_tests file i)
unfolding points_tests
more file i e = broken_past (points_tests file i) (point_tests file i) (numbered_points file i) e

pub no_points : (file : List ℕ) → broken (points_tests file 0) ≡ 0
unfolding broken points_tests
no_points file = refl

pub point_holds : (file : List ℕ) (i : ℕ) → broken (points_tests file i) ≡ 0 → 0 ≡ broken (point_tests file i) → broken (points_tests file (i + 1)) ≡ 0
point_holds file i e h = rw add-one (more file i e ∙ sym h)

pub point_found : (file : List ℕ) (i n m e : ℕ) → i < m → m ≡ n → broken (points_tests file i) ≡ 0 → e + 1 ≡ broken (point_tests file i) → e + 1 ≡ broken (points_tests file n)
point_found file i n m e l k z h =
    let f : broken (points_tests file (suc i)) ≡ suc e = more file i z ∙ sym h ∙ omega arith in
    let g : suc i + (n - suc i) ≡ n = omega (arith, l, k) in
    omega (arith, rw g at (first file (suc i) (n - suc i) e f))

-- what comes behind the points
pub then_last : (file : List ℕ) (n : ℕ) → 0 ≡ broken (points_tests file n) → broken (points_tests file n ++ last_tests file) ≡ broken (last_tests file)
then_last file n e = broken_past (points_tests file n) (last_tests file) (numbered_points file n) (sym e)

pub before_last : (file : List ℕ) (n m e : ℕ) {a : Result ⊤ ℕ} → a ≡ Err e → m ≡ n → found_by a ≡ broken (points_tests file m) → e + 1 ≡ broken (points_tests file n ++ last_tests file)
before_last file n m e k j h =
    let g : e + 1 ≡ broken (points_tests file m) = rw k at h in
    let f : broken (points_tests file n) ≡ suc e = omega (arith, rw j at g) in
    omega (arith, broken_first (points_tests file n) (last_tests file) e (numbered_points file n) f)
