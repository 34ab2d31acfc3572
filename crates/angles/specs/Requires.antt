-- What private functions ask for and promise each other: nothing that a reader must believe.
use Rattle.std.specs.Prelude.{◌≡◌, ℕ, ◌+◌, ◌-◌, ◌*◌, ◌/◌, ◌^◌, ◌<◌, ◌≤◌, ◌⊎◌, Bool, true, nat_le, List, [], ◌∷◌}
use Rattle.angles.specs.Series.{mh}

-- ---- an arc's test: whether the sides are in order, low k ≤ high k. It holds, or fails, up to one place and not beyond
abbrev pub holds : (low high : ℕ → ℕ) → ℕ → Bool
holds low high k = nat_le (low k) (high k)

abbrev pub Falls : (ℕ → Bool) → ℕ → Type 0
Falls p top = (k : ℕ) → k + 1 < top → p (k + 1) ≡ true → p k ≡ true

-- ---- a guess: from each k to the next the sides part by a least amount
abbrev pub Part : (low high : ℕ → ℕ) → ℕ → ℕ → Type 0
Part low high q k = low k + high (k + 1) + q ≤ low (k + 1) + high k

-- q is 0, or what the sides part by at the least, from j - 1 to j and from j to j + 1
abbrev pub Steep : (low high : ℕ → ℕ) → (top q j : ℕ) → Type 0
Steep low high top q j = (q ≡ 0) ⊎ ((j + 1 ≤ top) × (((j ≡ 0) ⊎ Part low high q (j - 1)) × Part low high q j))

-- at j the sides are as the guess says, by no more than q: the test fails there (e is 0), or holds there (e is 1)
abbrev pub Agrees : (low high q e : ℕ) → Type 0
Agrees low high q e = (low ≤ high + q * (1 - e)) × (high < low + q * e)

-- ---- the sine series cut short: what it leaves out at most
abbrev pub short_by : ℕ
short_by = 2 ^ 20

-- x is y, or below it by at most k
abbrev pub Close : (x y k : ℕ) → Type 0
Close x y k = (x ≤ y) × (y ≤ x + k)

-- `fixed` of the terms cs, and of others after them that sum up to h
unfoldable pub over : (d f : ℕ) → List ℕ → (v h : ℕ) → ℕ
over d f [] v h = h
over d f (c ∷ cs) v h = f * c / d + mh v (over d (512 * f) cs v h)
