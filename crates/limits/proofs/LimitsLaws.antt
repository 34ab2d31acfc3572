-- What a passed test tells, for callers that go on inside the range. Assumes nothing.
use mathlib.Core.Logic.{⊎_elim}
use Prim.Native.Nat.{ℕ, zero, suc, ◌+◌, ◌≤◌, ◌<◌}
use native.Mathlib.Nat.{eq-or-lt_of_le}
use mathlib.Core.Path.{◌≡◌, refl}
use mathlib.Core.Bool.{Bool, true, false, ◌&&◌, and-eq-true_iff}
use mathlib.Core.List.{List, [], ◌∷◌, ◌++◌}
use native.Mathlib.Omega.{arith}
use borrow.Author.Tests.{leb-true}
use lib.Dec.{leb}
use lib.ListN.{get_or}
use lib.Ieee.{Float, nan}
use Rattle.limits.specs.Limits.{broken, slots_within, count_within, layer_within, km_within, point_within, points_within}

-- both tests of a range passed
pub both : (s t : Bool) → (s && t) ≡ true → (s ≡ true) × (t ≡ true)
both s t = (and-eq-true_iff s t).0

orders : (a b c d : ℕ) → (leb a b && leb c d) ≡ true → (a ≤ b) × (c ≤ d)
orders a b c d e = let t = both (leb a b) (leb c d) e in (leb-true a b t.0, leb-true c d t.1)

pub slots_within_lem : (ist lst : ℕ) → slots_within ist lst ≡ true → (1 ≤ ist) × (lst ≤ 7)
slots_within_lem ist lst = orders 1 ist lst 7

pub count_within_lem : (before added : ℕ) → count_within before added ≡ true → before + added ≤ 20
count_within_lem before added = leb-true (before + added) 20

pub layer_within_lem : (layer : ℕ) → layer_within layer ≡ true → (1 ≤ layer) × (layer ≤ 4)
layer_within_lem layer = orders 1 layer layer 4

pub km_within_lem : (km : ℕ) → km_within km ≡ true → (1 ≤ km) × (km ≤ 5)
km_within_lem km = orders 1 km km 5

below : (n i : ℕ) → i < suc n → i ≤ n
below n i h = omega arith

-- each of the first n points is within
pub points_within_lem : (fs : List (List Float)) (hs : List Float) (n i : ℕ) → points_within fs hs n ≡ true → i < n → point_within (get_or fs i []) (get_or hs i nan) ≡ true
unfolding points_within
points_within_lem fs hs zero i e h = absurd (omega (arith, h))
points_within_lem fs hs (suc n) i e h =
    let t = both (points_within fs hs n) (point_within (get_or fs n []) (get_or hs n nan)) e in
    ⊎_elim (λ q. rw q t.1) (λ l. points_within_lem fs hs n i t.0 l) (eq-or-lt_of_le (below n i h))

-- ---- the first limit broken

-- of a list with none broken, the first limit holds and none of the others is broken
pub unbroken : (n : ℕ) (holds : Bool) (ls : List (ℕ × Bool)) → broken ((suc n, holds) ∷ ls) ≡ 0 → (holds ≡ true) × (broken ls ≡ 0)
unfolding broken
unbroken n true ls e = (refl, e)
unbroken n false ls e = absurd (omega (arith, e))

-- ---- of two lists, one after the other

-- a number, or another one where it is 0
abbrev pub or_else : ℕ → ℕ → ℕ
or_else zero m = m
or_else (suc n) m = suc n

-- no limit has the number 0
abbrev pub numbered : List (ℕ × Bool) → Bool
numbered [] = true
numbered ((n, holds) ∷ ls) = leb 1 n && numbered ls

pub broken_append : (xs ys : List (ℕ × Bool)) → numbered xs ≡ true → broken (xs ++ ys) ≡ or_else (broken xs) (broken ys)
unfolding broken
broken_append [] ys h = refl
broken_append ((n, true) ∷ xs) ys h = broken_append xs ys (both (leb 1 n) (numbered xs) h).1
broken_append ((suc n, false) ∷ xs) ys h = refl
broken_append ((zero, false) ∷ xs) ys h = absurd (omega (arith, leb-true 1 0 (both (leb 1 0) (numbered xs) h).0))

none : (n m : ℕ) → or_else n m ≡ 0 → (n ≡ 0) × (m ≡ 0)
none zero m e = (refl, e)
none (suc n) m e = absurd (omega (arith, e))

-- where none of both lists is broken, none of either is
pub broken_parts : (xs ys : List (ℕ × Bool)) → numbered xs ≡ true → broken (xs ++ ys) ≡ 0 → (broken xs ≡ 0) × (broken ys ≡ 0)
broken_parts xs ys h e = none (broken xs) (broken ys) (rw (broken_append xs ys h) at e)

-- where none of the first is broken, the second's number is that of both
pub broken_past : (xs ys : List (ℕ × Bool)) → numbered xs ≡ true → broken xs ≡ 0 → broken (xs ++ ys) ≡ broken ys
broken_past xs ys h e = rw (broken_append xs ys h, e)

-- and where one of the first is, its number is
pub broken_first : (xs ys : List (ℕ × Bool)) (n : ℕ) → numbered xs ≡ true → broken xs ≡ suc n → broken (xs ++ ys) ≡ suc n
broken_first xs ys n h e = rw (broken_append xs ys h, e)
