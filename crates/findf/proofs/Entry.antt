-- For `look` and the fills: an entry within limit 10 comes back from its bits, and is its own size. Assumes nothing.
use Rattle.std.proofs.Common.{◌≡◌, ℕ, zero, suc, ◌<◌, ◌≤◌, true, T, leb, List, [], ◌∷◌, get_or, ℤ, pos, negsuc, nat_abs, refl, arith, w32, Fits, to_z, of_z, below_more, leb-true}
use lib.Signed.{non_neg}
use mir.ValLaws.{to_z-of_z}
use Rattle.limits.specs.Limits.{ifob_within, entries_within}
use Rattle.limits.proofs.LimitsLaws.{both}
use Rattle.findf.specs.Look.{entry_of}
use Rattle.findf.specs.Requires.{Entry, Entries}

-- an entry by its sign
abbrev Small : ℤ → Type 0
Small (pos n) = n ≤ 99999
Small (negsuc n) = ⊥

small_of : (v : ℤ) → Entry v → Small v
small_of (pos n) e = leb-true n 99999 (both (leb 0 n) (leb n 99999) e).1
small_of (negsuc n) e = let z : ◌≡◌ {A = ℕ} 0 1 = cc in absurd (omega arith)

same_by : (v : ℤ) → Small v → to_z w32 (of_z w32 v) ≡ v
same_by (pos n) h = to_z-of_z w32 (pos n) (record { sfits = omega arith })
same_by (negsuc n) h = absurd h

pub same : (v : ℤ) → Entry v → to_z w32 (of_z w32 v) ≡ v
same v e = same_by v (small_of v e)

casts_by : (v : ℤ) → Small v → T (non_neg v) × Fits w32 (nat_abs v)
casts_by (pos n) h = (tt, omega arith)
casts_by (negsuc n) h = absurd h

pub casts : (v : ℤ) → Entry v → T (non_neg v) × Fits w32 (nat_abs v)
casts v e = casts_by v (small_of v e)

size : (v : ℤ) → Small v → nat_abs v ≤ 99999
size (pos n) h = h
size (negsuc n) h = absurd h

-- an entry that is within is not a missing one
present : (l : List ℤ) (i : ℕ) → Entry (get_or l i (negsuc 0)) → Entry (get_or l i (pos 0))
present [] i e = refl
present (x ∷ xs) zero e = e
present (x ∷ xs) (suc i) e = present xs i e

-- each entry that the scan has passed
each_to : (ifob : List ℤ) (n : ℕ) → entries_within ifob n ≡ true → (i : ℕ) → i < n → Entry (get_or ifob i (pos 0))
unfolding entries_within
each_to ifob zero e i h = absurd (omega arith)
each_to ifob (suc n) e i h =
    let b = both (entries_within ifob n) (ifob_within (get_or ifob n (negsuc 0))) e in
    below_more (λ (k : ℕ). Entry (get_or ifob k (pos 0))) n (each_to ifob n b.0) (present ifob n b.1) i (omega arith)

pub each : (ifob : List ℤ) → Entries ifob → (i : ℕ) → i < 1200 → Entry (get_or ifob i (pos 0))
each ifob e = each_to ifob 1200 e

-- an entry that was read
pub entry_small : (ifob : List ℤ) (i : ℕ) {v : ℕ} → v ≡ entry_of ifob i → Entries ifob → i < 1200 → v ≤ 99999
unfolding entry_of
entry_small ifob i e all h = rw e (size (get_or ifob i (pos 0)) (small_of (get_or ifob i (pos 0)) (each ifob all i h)))
