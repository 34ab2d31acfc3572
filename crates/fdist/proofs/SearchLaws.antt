-- What every run of the search keeps: why it ends (`ends_only`), its counts (`run_counted`), their bounds (`run_few`), and the angles of its slots (`run_reached`). Assumes nothing.
use Prim.Native.Nat.{ℕ, ◌+◌, ◌≤◌, ◌<◌}
use mathlib.Core.Path.{◌≡◌, refl, sym, ◌∙◌}
use mathlib.Core.Bool.{Bool, true, false, cond, ◌||◌}
use mathlib.Core.Logic.{◌⊎◌, inl, inr, ⊎_elim}
use native.Mathlib.Omega.{arith}
use lib.Dec.{leb}
use lib.Ieee.{Float, neg}
use borrow.Author.Tests.{le-leb, lt-leb}
use Rattle.arith.specs.Floats.{abs_of}
use Rattle.arith.proofs.Order.{no, neg_abs_not_above}
use Rattle.arith.specs.Run.{Next, done, run, count}
use Rattle.arith.proofs.RunLaws.{Kept, run_same, run_keeps, Raised, run_counts}
use Rattle.fdist.specs.declared.Searched.{Searched}
use Rattle.fdist.specs.Fdist.{Rows, Search, start, none_of, low, turn_of, turns, run_of}
use Rattle.fdist.specs.Demand.{ray_of, reaches, tries_of, accepts_of}
use Rattle.fdist.proofs.TurnLaws.{Tried, turn_ways, turn_falls, left, next_at_lem}
use Rattle.fdist.proofs.SlotLaws.{Reached, put_reached, empty_reached}

second_holds : (a b : Bool) → b ≡ true → (a || b) ≡ true
second_holds true b e = refl
second_holds false b e = e

module _ (t : Rows) (d amind freq : Float) where
  -- a search ends only after pair 44, at a height ≤ 0, or with the sixth accepted slot
  pub ends_only : (s : Search) (a : Searched) → turn_of t d amind freq s ≡ done a → (44 ≤ s.at) ⊎ (low t s.at ≡ true) ⊎ (6 ≤ a.rays)
  ends_only s a =
      turn_ways t d amind freq s (λ (x : Next Search Searched). x ≡ done a → (44 ≤ s.at) ⊎ (low t s.at ≡ true) ⊎ (6 ≤ a.rays)) (record {
        ends = λ h q. ⊎_elim inl (λ k. inr (inl k)) h;
        passes = λ w e q. let z : ◌≡◌ {A = ℕ} 0 1 = cc in absurd (omega arith);
        sixth = λ r w e p k q. let n : s.rays + 1 ≡ a.rays = cc in inr (inr (omega arith));
        accepts = λ r w e p k q. let z : ◌≡◌ {A = ℕ} 0 1 = cc in absurd (omega arith);
        lowers = λ r w e p q. let z : ◌≡◌ {A = ℕ} 0 1 = cc in absurd (omega arith);
      })

  -- a turn raises the pairs tried by 1 where it tries one, the rays by 1 where it accepts one
  tries_none : (s : Search) → (44 ≤ s.at) ⊎ (low t s.at ≡ true) → tries_of t s ≡ 0
  tries_none s (inl k) = rw (le-leb 44 s.at k)
  tries_none s (inr k) = rw (second_holds (leb 44 s.at) (low t s.at) k)

  tries_one : (s : Search) → Tried t s → tries_of t s ≡ 1
  tries_one s h = rw (lt-leb 44 s.at h.room, h.high)

  pub pairs_raised : (s : Search) → Unit {0} → Raised (λ (s : Search). s.pairs) (λ (a : Searched). a.pairs) (s.pairs + tries_of t s) (turn_of t d amind freq s)
  pairs_raised s _ = turn_ways t d amind freq s (Raised (λ (s : Search). s.pairs) (λ (a : Searched). a.pairs) (s.pairs + tries_of t s)) (record {
    ends = λ h. omega (arith, tries_none s h);
    passes = λ w e. omega (arith, tries_one s w);
    sixth = λ r w e p k. omega (arith, tries_one s w);
    accepts = λ r w e p k. omega (arith, tries_one s w);
    lowers = λ r w e p. omega (arith, tries_one s w);
  })

  accepts_none : (s : Search) (b : Bool) → tries_of t s ≡ 0 → cond b (tries_of t s) 0 ≡ 0
  accepts_none s true e = e
  accepts_none s false e = refl

  pub rays_raised : (s : Search) → Unit {0} → Raised (λ (s : Search). s.rays) (λ (a : Searched). a.rays) (s.rays + accepts_of t d amind freq s) (turn_of t d amind freq s)
  rays_raised s _ = turn_ways t d amind freq s (Raised (λ (s : Search). s.rays) (λ (a : Searched). a.rays) (s.rays + accepts_of t d amind freq s)) (record {
    ends = λ h. omega (arith, accepts_none s (reaches amind (ray_of t d freq s.at)) (tries_none s h));
    passes = λ w e. rw e (omega arith);
    sixth = λ r w e p k. rw (e, p) (omega (arith, tries_one s w));
    accepts = λ r w e p k. rw (e, p) (omega (arith, tries_one s w));
    lowers = λ r w e p. rw (e, p) (omega arith);
  })

  pub run_counted : (c u : Search → ℕ) (v : Searched → ℕ) → u start ≡ 0 → ((s : Search) → Unit {0} → Raised u v (u s + c s) (turn_of t d amind freq s))
      → v (run_of t d amind freq) ≡ count (turn_of t d amind freq) c turns start
  unfolding run_of
  run_counted c u v z raise =
      let e = run_counts (turn_of t d amind freq) (λ _. Unit {0}) left (turn_falls t d amind freq) (λ s. omega arith) c u v raise none_of turns start tt (omega arith) in
      omega arith

  -- more turns than 45, or another answer for want of them, would change nothing
  pub search_same : (d' : Searched) (n : ℕ) → turns ≤ n → run (turn_of t d amind freq) d' n start ≡ run_of t d amind freq
  unfolding run_of
  search_same d' n h = run_same (turn_of t d amind freq) (λ _. Unit {0}) left (turn_falls t d amind freq) (λ s. omega arith) d' none_of n turns start tt h (omega arith)

  -- at most 44 pairs: one at each row that is passed; at most six rays
  record Few (s : Search) : Type 0 where
    passed_by : s.pairs ≤ s.at
    pairs_few : s.pairs ≤ 44
    rays_few : s.rays < 6

  abbrev Few-so : Next Search Searched → Type 0
  Few-so = Kept Few (λ (a : Searched). (a.pairs ≤ 44) × (a.rays ≤ 6))

  turn_few : (s : Search) → Few s → Few-so (turn_of t d amind freq s)
  turn_few s h =
      let n = next_at_lem t d s.at in turn_ways t d amind freq s Few-so (record {
        ends = λ _. (h.pairs_few, omega (arith, h.rays_few));
        passes = λ w e. record { passed_by = omega (arith, h.passed_by); pairs_few = omega (arith, h.passed_by, w.room); rays_few = h.rays_few };
        sixth = λ r w e p k. (omega (arith, h.passed_by, w.room), omega (arith, h.rays_few));
        accepts = λ r w e p k. record { passed_by = omega (arith, h.passed_by); pairs_few = omega (arith, h.passed_by, w.room); rays_few = k };
        lowers = λ r w e p. record { passed_by = omega (arith, h.passed_by); pairs_few = omega (arith, h.passed_by, w.room); rays_few = h.rays_few };
      })

  pub run_few : ((run_of t d amind freq).pairs ≤ 44) × ((run_of t d amind freq).rays ≤ 6)
  unfolding run_of
  run_few =
      run_keeps (turn_of t d amind freq) none_of Few (λ (a : Searched). (a.pairs ≤ 44) × (a.rays ≤ 6)) turn_few (omega arith, omega arith) turns start
      (record { passed_by = omega arith; pairs_few = omega arith; rays_few = omega arith })

  -- every slot of positive height reaches the minimum angle
  abbrev Reached-so : Next Search Searched → Type 0
  Reached-so = Kept (λ (s : Search). Reached amind s.m × (s.rays < 6)) (λ (a : Searched). Reached amind a.m)

  turn_reached : (s : Search) → Reached amind s.m × (s.rays < 6) → Reached-so (turn_of t d amind freq s)
  turn_reached s (h, k) = turn_ways t d amind freq s Reached-so (record {
    ends = λ _. h;
    passes = λ w e. (h, k);
    sixth = λ r w e p _. put_reached amind s.m s.rays r r.hp k h (λ _. p);
    accepts = λ r w e p j. (put_reached amind s.m s.rays r r.hp k h (λ _. p), j);
    lowers = λ r w e p. (put_reached amind s.m s.rays r (neg (abs_of r.hp)) k h (λ q. no (sym (neg_abs_not_above r.hp) ∙ q)), k);
  })

  pub run_reached : Reached amind (run_of t d amind freq).m
  unfolding run_of
  run_reached =
      run_keeps (turn_of t d amind freq) none_of (λ (s : Search). Reached amind s.m × (s.rays < 6)) (λ (a : Searched). Reached amind a.m) turn_reached (empty_reached amind) turns start
      (empty_reached amind, omega arith)

  -- an answer of the search is no refusal
  pub run_unrefused : (run_of t d amind freq).refusal ≡ 0
  unfolding run_of
  run_unrefused = run_keeps (turn_of t d amind freq) none_of (λ (_ : Search). Unit {0}) (λ (a : Searched). a.refusal ≡ 0) unrefused refl turns start tt
    where
      unrefused : (s : Search) → Unit {0} → Kept (λ (_ : Search). Unit {0}) (λ (a : Searched). a.refusal ≡ 0) (turn_of t d amind freq s)
      unrefused s _ =
          turn_ways t d amind freq s (Kept (λ (_ : Search). Unit {0}) (λ (a : Searched). a.refusal ≡ 0))
          (record { ends = λ _. refl; passes = λ w e. tt; sixth = λ r w e p k. refl; accepts = λ r w e p k. tt; lowers = λ r w e p. tt })
