-- Laws of the looks: which labels they lead to, how far ih goes, how many they are. Assumes nothing.
use Rattle.std.proofs.Common.{◌≡◌, ℕ, suc, ◌+◌, ◌-◌, ◌<◌, ◌≤◌, Bool, true, false, List, ℤ, refl, arith, leb-false}
use Rattle.arith.specs.Run.{Next}
use Rattle.arith.proofs.RunLaws.{Kept, run_keeps, Lessens, Raised, run_same, run_counts}
use Rattle.arith.specs.Run as Run
use Rattle.findf.specs.Look.{looked, look_by, look_of, looks_of}
use Rattle.findf.specs.Requires.{interpolates}
use Rattle.findf.specs.Demand.{looks_from}
use Rattle.findf.specs.declared.look.Looked.{Looked}
use Rattle.findf.specs.declared.walk.Label.{Label}
use Rattle.findf.specs.declared.walk.Label.TheVariants.{Search, NextLayer, Fill, NextCusp, Done}
use Rattle.findf.specs.declared.walk.Fill.TheVariants.{Exact, Interp, Cusp, NextCusp360}

-- the labels that a look leads to
abbrev pub Seen : Label → Type 0
Seen Search = Unit {0}
Seen NextLayer = ⊥
Seen (Fill Exact) = Unit {0}
Seen (Fill Interp) = Unit {0}
Seen (Fill Cusp) = ⊥
Seen (Fill NextCusp360) = ⊥
Seen NextCusp = ⊥
Seen Done = ⊥

-- what the looks from row ih of a range that ends at ihigh leave
pub record Looks (ihigh ih looks : ℕ) (l : Looked) : Type 0 where
  pub seen : Seen l.label
  pub from : ih ≤ l.ih
  pub to : l.ih + interpolates l.label ≤ ihigh
  pub few : l.looks + ih ≤ looks + l.ih + 1

module _ (ifob : List ℤ) (jfhz column ilow ihigh ih looks : ℕ) (h : ih ≤ ihigh) where
  abbrev on_the_way : ℕ × ℕ → Type 0
  on_the_way s = (ih ≤ s.0) × ((s.0 ≤ ihigh) × (s.1 + ih ≤ looks + s.0))

  abbrev K : Next (ℕ × ℕ) Looked → Type 0
  K = Kept on_the_way (Looks ihigh ih looks)

  by_keeps : (low last equal greater less : Bool) (at n : ℕ) → (last ≡ false → at < ihigh) → on_the_way (at, n)
      → K (look_by low last equal greater less at (n + 1))
  unfolding look_by
  by_keeps true last equal greater less at n b p = record { seen = tt; from = omega arith; to = omega arith; few = omega arith }
  by_keeps false true equal greater less at n b p = record { seen = tt; from = omega arith; to = omega arith; few = omega arith }
  by_keeps false false true greater less at n b p = record { seen = tt; from = omega arith; to = omega arith; few = omega arith }
  by_keeps false false false true less at n b p = omega (arith, b refl)
  by_keeps false false false false true at n b p = omega (arith, b refl)
  by_keeps false false false false false at n b p = let k = b refl in record { seen = tt; from = omega arith; to = omega arith; few = omega arith }

  look_keeps : (s : ℕ × ℕ) → on_the_way s → K (look_of ifob jfhz column ilow ihigh s)
  unfolding look_of
  look_keeps s p = by_keeps _ _ _ _ _ s.0 s.1 (leb-false ihigh s.0) p

  pub looks_leave : Looks ihigh ih looks (looks_of ifob jfhz column ilow ihigh ih looks)
  unfolding looks_of
  looks_leave =
      run_keeps (look_of ifob jfhz column ilow ihigh) (looked Search ih looks) on_the_way (Looks ihigh ih looks) look_keeps
      (record { seen = tt; from = omega arith; to = omega arith; few = omega arith }) (suc (ihigh - ih)) (ih, looks) (omega arith)

-- From any row at all the looks end, and they are as many as the turns of the inner loop.
module _ (ifob : List ℤ) (jfhz column ilow ihigh : ℕ) where
  abbrev any : ℕ × ℕ → Type 0
  any s = Unit {0}

  abbrev left : ℕ × ℕ → ℕ
  left s = suc (ihigh - s.0)

  by_less : (low last equal greater less : Bool) (at n : ℕ) → (last ≡ false → at < ihigh) → Lessens any left (left (at, n)) (look_by low last equal greater less at (n + 1))
  unfolding look_by
  by_less true last equal greater less at n b = tt
  by_less false true equal greater less at n b = tt
  by_less false false true greater less at n b = tt
  by_less false false false true less at n b = (tt, omega (arith, b refl))
  by_less false false false false true at n b = (tt, omega (arith, b refl))
  by_less false false false false false at n b = tt

  look_less : (s : ℕ × ℕ) → any s → Lessens any left (left s) (look_of ifob jfhz column ilow ihigh s)
  unfolding look_of
  look_less s p = by_less _ _ _ _ _ s.0 s.1 (leb-false ihigh s.0)

  abbrev counted : ℕ × ℕ → ℕ
  counted s = s.1

  abbrev answered : Looked → ℕ
  answered l = l.looks

  by_raises : (low last equal greater less : Bool) (at n : ℕ) → Raised counted answered (n + 1) (look_by low last equal greater less at (n + 1))
  unfolding look_by
  by_raises true last equal greater less at n = refl
  by_raises false true equal greater less at n = refl
  by_raises false false true greater less at n = refl
  by_raises false false false true less at n = refl
  by_raises false false false false true at n = refl
  by_raises false false false false false at n = refl

  look_raises : (s : ℕ × ℕ) → any s → Raised counted answered (counted s + 1) (look_of ifob jfhz column ilow ihigh s)
  unfolding look_of
  look_raises s p = by_raises _ _ _ _ _ s.0 s.1

  pub looks_are_turns : (ih looks : ℕ) → (looks_of ifob jfhz column ilow ihigh ih looks).looks ≡ looks + looks_from ifob jfhz column ilow ihigh ih looks
  unfolding looks_of
  looks_are_turns ih looks =
      run_counts (look_of ifob jfhz column ilow ihigh) any left look_less (λ s. omega arith) (λ _. 1) counted answered look_raises (looked Search ih looks)
      (suc (ihigh - ih)) (ih, looks) tt (omega arith)

  -- more fuel, or another answer where it runs out, changes nothing
  pub looks_same : (d : Looked) (n ih looks : ℕ) → suc (ihigh - ih) ≤ n
      → Run.run (look_of ifob jfhz column ilow ihigh) d n (ih, looks) ≡ looks_of ifob jfhz column ilow ihigh ih looks
  unfolding looks_of
  looks_same d n ih looks h =
      run_same (look_of ifob jfhz column ilow ihigh) any left look_less (λ s. omega arith) d (looked Search ih looks) n (suc (ihigh - ih)) (ih, looks) tt h
      (omega arith)
