-- Laws of `run`, for every loop: a loop in the code equals its definition (`Leads`), what each step keeps the run has (`run_keeps`), fuel above a falling measure makes no difference
-- (`run_same`), steps add up (`steps_add`), a number that each step raises by c has risen by the count
-- (`run_counts`), and where the test stops the step only at its fixed points, the run is the step iterated (`run_iterate`). Assumes nothing.
use mathlib.Core.Path.{◌≡◌, refl, sym, ap, ◌∙◌}
use mathlib.Core.Bool.{Bool, true, false}
use Prim.Native.Nat.{ℕ, zero, suc, ◌+◌, ◌≤◌, ◌<◌}
use native.Mathlib.Omega.{arith}
use native.Mathlib.Nat.{le_refl, suc-add, zero-add}
use Rattle.arith.specs.Run.{Next, more, done, onward, rest, then, run, steps, count, iterate, stop_by, until}

-- ---- the invariant of a loop whose turn is the step f: the run from the state at hand, with fuel for its measure k, answers r
pub record Leads {S R : Type 0} (f : S → Next S R) (d : R) (k : ℕ) (s : S) (r : R) : Type 0 where
  pub fuel : ℕ
  pub enough : k ≤ fuel
  pub gives : run f d fuel s ≡ r

module _ {S R : Type 0} {f : S → Next S R} {d : R} where
  pub leads_start : (k : ℕ) (s : S) → Leads f d k s (run f d k s)
  leads_start k s = record { fuel = k; enough = le_refl k; gives = refl }

  leads_by : (n k j : ℕ) (s t : S) (r : R) → k ≤ n → run f d n s ≡ r → f s ≡ more t → j < k → Leads f d j t r
  unfolding run
  leads_by zero k j s t r p e q h = absurd (omega arith)
  leads_by (suc n) k j s t r p e q h = record { fuel = n; enough = omega arith; gives = sym (ap (onward (run f d n)) q) ∙ e }

  pub leads_more : {k j : ℕ} {s t : S} {r : R} → Leads f d k s r → f s ≡ more t → j < k → Leads f d j t r
  leads_more {k} {j} {s} {t} {r} l q h = leads_by l.fuel k j s t r l.enough l.gives q h

module _ {S R : Type 0} where
  ends_by : (f : S → Next S R) (d : R) (n k : ℕ) (s : S) (r q : R) → k ≤ n → run f d n s ≡ r → f s ≡ done q → 0 < k → q ≡ r
  unfolding run
  ends_by f d zero k s r q p e g h = absurd (omega arith)
  ends_by f d (suc n) k s r q p e g h = sym (ap (onward (run f d n)) g) ∙ e

module _ {S R : Type 0} {f : S → Next S R} {d : R} where
  pub leads_done : {k : ℕ} {s : S} {r q : R} → Leads f d k s r → f s ≡ done q → 0 < k → q ≡ r
  leads_done {k} {s} {r} {q} l g h = ends_by f d l.fuel k s r q l.enough l.gives g h

-- ---- what each step keeps: P of the next state, Q of the answer
abbrev pub Kept : {S R : Type 0} → (S → Type 0) → (R → Type 0) → Next S R → Type 0
Kept P Q (more s) = P s
Kept P Q (done r) = Q r

module _ {S R : Type 0} (f : S → Next S R) (d : R) (P : S → Type 0) (Q : R → Type 0) (k : (s : S) → P s → Kept P Q (f s)) (q : Q d) where
  keeps_on : (n : ℕ) (g : (s : S) → P s → Q (run f d n s)) (m : Next S R) → Kept P Q m → Q (onward (run f d n) m)
  keeps_on n g (more s) h = g s h
  keeps_on n g (done r) h = h

  pub run_keeps : (n : ℕ) (s : S) → P s → Q (run f d n s)
  unfolding run
  run_keeps zero s h = q
  run_keeps (suc n) s h = keeps_on n (run_keeps n) (f s) (k s h)

-- the same of `steps`, which may be cut anywhere
module _ {S R : Type 0} (f : S → Next S R) (P : S → Type 0) (Q : R → Type 0) (k : (s : S) → P s → Kept P Q (f s)) where
  steps_on : (n : ℕ) (g : (s : S) → P s → Kept P Q (steps f n s)) (m : Next S R) → Kept P Q m → Kept P Q (then (steps f n) m)
  steps_on n g (more s) h = g s h
  steps_on n g (done r) h = h

  pub steps_keep : (n : ℕ) (s : S) → P s → Kept P Q (steps f n s)
  unfolding steps
  steps_keep zero s h = h
  steps_keep (suc n) s h = steps_on n (steps_keep n) (f s) (k s h)

-- ---- a step that keeps P and lessens the measure m, which is above 0
abbrev pub Lessens : {S R : Type 0} → (S → Type 0) → (S → ℕ) → ℕ → Next S R → Type 0
Lessens P m k (more s) = P s × (m s < k)
Lessens P m k (done r) = Unit {0}

module _ {S R : Type 0} (f : S → Next S R) (P : S → Type 0) (m : S → ℕ) (k : (s : S) → P s → Lessens P m (m s) (f s)) (z : (s : S) → 0 < m s) where
  -- any fuel at or above the measure gives the same answer, whatever a run out of fuel would give
  same_on : (d d' : R) (n n' : ℕ) (g : (s : S) → P s → m s ≤ n → m s ≤ n' → run f d n s ≡ run f d' n' s) (j : ℕ) (x : Next S R) → j ≤ suc n → j ≤ suc n' → Lessens P m j x
      → onward (run f d n) x ≡ onward (run f d' n') x
  same_on d d' n n' g j (more s) h h' q = g s q.0 (omega arith) (omega arith)
  same_on d d' n n' g j (done r) h h' q = refl

  pub run_same : (d d' : R) (n n' : ℕ) (s : S) → P s → m s ≤ n → m s ≤ n' → run f d n s ≡ run f d' n' s
  unfolding run
  run_same d d' zero n' s p h h' = absurd (omega (arith, z s))
  run_same d d' (suc n) zero s p h h' = absurd (omega (arith, z s))
  run_same d d' (suc n) (suc n') s p h h' = same_on d d' n n' (run_same d d' n n') (m s) (f s) h h' (k s p)

-- ---- steps add up: m + n steps are n steps after m
module _ {S R : Type 0} (f : S → Next S R) where
  add_on : (m n : ℕ) (g : (s : S) → steps f (m + n) s ≡ then (steps f n) (steps f m s)) (x : Next S R)
      → then (steps f (m + n)) x ≡ then (steps f n) (then (steps f m) x)
  add_on m n g (more s) = g s
  add_on m n g (done r) = refl

  pub steps_add : (m n : ℕ) (s : S) → steps f (m + n) s ≡ then (steps f n) (steps f m s)
  unfolding steps
  steps_add zero n s = ap (λ (k : ℕ). steps f k s) (zero-add n)
  steps_add (suc m) n s = ap (λ (k : ℕ). steps f k s) (suc-add m n) ∙ add_on m n (steps_add m n) (f s)

  -- a run is its steps, with the answer d where they give none
  steps_run_on : (d : R) (n : ℕ) (g : (s : S) → run f d n s ≡ onward (λ _. d) (steps f n s)) (x : Next S R) → onward (run f d n) x ≡ onward (λ _. d) (then (steps f n) x)
  steps_run_on d n g (more s) = g s
  steps_run_on d n g (done r) = refl

  pub run_steps : (d : R) (n : ℕ) (s : S) → run f d n s ≡ onward (λ _. d) (steps f n s)
  unfolding run steps
  run_steps d zero s = refl
  run_steps d (suc n) s = steps_run_on d n (run_steps d n) (f s)

-- ---- a number on states (u) and on answers (v) that each step raises by c is, at the end, what it was at the start and the count of c
abbrev pub Raised : {S R : Type 0} → (S → ℕ) → (R → ℕ) → ℕ → Next S R → Type 0
Raised u v k (more s) = u s ≡ k
Raised u v k (done r) = v r ≡ k

module _ {S R : Type 0} (f : S → Next S R) (P : S → Type 0) (m : S → ℕ) (k : (s : S) → P s → Lessens P m (m s) (f s)) (z : (s : S) → 0 < m s)
    (c u : S → ℕ) (v : R → ℕ) (raise : (s : S) → P s → Raised u v (u s + c s) (f s)) (d : R) where
  counts_on : (n : ℕ) (g : (s : S) → P s → m s ≤ n → v (run f d n s) ≡ u s + count f c n s) (j : ℕ) (a b : ℕ) (x : Next S R) → j ≤ suc n → Lessens P m j x → Raised u v (a + b) x
      → v (onward (run f d n) x) ≡ a + (b + rest (count f c n) x)
  counts_on n g j a b (more s) h q r = omega (arith, g s q.0 (omega arith), r)
  counts_on n g j a b (done t) h q r = omega (arith, r)

  pub run_counts : (n : ℕ) (s : S) → P s → m s ≤ n → v (run f d n s) ≡ u s + count f c n s
  unfolding run count
  run_counts zero s p h = absurd (omega (arith, z s))
  run_counts (suc n) s p h = counts_on n (run_counts n) (m s) (u s) (c s) (f s) h (k s p) (raise s p)

-- ---- a step that is iterated, with or without a test that stops it at a fixed point
module _ {S : Type 0} (g : S → S) where
  pub iterate_add : (m n : ℕ) (s : S) → iterate (m + n) g s ≡ iterate n g (iterate m g s)
  unfolding iterate
  iterate_add zero n s = ap (λ (k : ℕ). iterate k g s) (zero-add n)
  iterate_add (suc m) n s = ap (λ (k : ℕ). iterate k g s) (suc-add m n) ∙ iterate_add m n (g s)

  pub iterate_fixed : (n : ℕ) (s : S) → g s ≡ s → iterate n g s ≡ s
  unfolding iterate
  iterate_fixed zero s e = refl
  iterate_fixed (suc n) s e = ap (iterate n g) e ∙ iterate_fixed n s e

  -- what g keeps
  pub iterate_keeps : (P : S → Type 0) → ((s : S) → P s → P (g s)) → (n : ℕ) (s : S) → P s → P (iterate n g s)
  unfolding iterate
  iterate_keeps P k zero s p = p
  iterate_keeps P k (suc n) s p = iterate_keeps P k n (g s) (k s p)

module _ {S : Type 0} (stop : S → Bool) (g : S → S) (fixed : (s : S) → stop s ≡ true → g s ≡ s) (P : S → Type 0) (m : S → ℕ)
    (k : (s : S) → P s → Lessens P m (m s) (until stop g s)) (z : (s : S) → 0 < m s) (d : S) where
  iterate_on : (n : ℕ) (r : (s : S) → P s → m s ≤ n → run (until stop g) d n s ≡ iterate n g s) (s : S) (j : ℕ) (b : Bool) → stop s ≡ b → j ≤ suc n
      → Lessens P m j (stop_by b s (g s)) → onward (run (until stop g) d n) (stop_by b s (g s)) ≡ iterate n g (g s)
  iterate_on n r s j true e h q = sym (ap (iterate n g) (fixed s e) ∙ iterate_fixed g n s (fixed s e))
  iterate_on n r s j false e h q = r (g s) q.0 (omega arith)

  pub run_iterate : (n : ℕ) (s : S) → P s → m s ≤ n → run (until stop g) d n s ≡ iterate n g s
  unfolding run iterate until
  run_iterate zero s p h = absurd (omega (arith, z s))
  run_iterate (suc n) s p h = iterate_on n (run_iterate n) s (m s) (stop s) refl h (k s p)
