-- Laws of the walk's steps, for nang ≤ 40 and any tables. Assumes nothing.
-- `walk_few`: looks ≤ nang + 28, rows ≤ nang + 4. `walk_same`: the answer does not depend on the fuel or on the default. `walk_iterate`: it is the step
-- iterated, so `step_of` alone is the meaning; `iterate_add` (arith) says that m + n steps are n steps after m, and `walk_resumes` that the walk
-- may be cut anywhere. `walk_done`: it ends at Done. `stop_never`: the stop at 45 rows is never taken.
-- `walk_looks`, `walk_rows`: looks are the turns of the inner loop, and rows the steps that write one.
-- `rows_iterate`, `looks_iterate`: n steps add the steps among them that write one, and the turns of the inner loop in them, whatever nang is.
use Rattle.std.proofs.Common.{◌≡◌, ℕ, zero, suc, ◌+◌, ◌*◌, ◌<◌, ◌≤◌, Bool, true, false, leb, sym, refl, ap, ◌∙◌, subst, zero-add, arith}
use borrow.Author.Tests.{lt-leb}
use Rattle.arith.specs.Run.{rest, run, count, iterate, until, stop_by}
use Rattle.arith.proofs.RunLaws.{Lessens, Raised, Kept, run_same, run_keeps, run_counts, run_iterate, iterate_add, iterate_fixed, iterate_keeps}
use Rattle.findf.proofs.LookLaws.{looks_are_turns}
use Rattle.findf.specs.Walk.{search_by, search_of, next_layer_by, next_layer_of, next_cusp_by, next_cusp_of, filled_by, filled_of, with_label, done_at, start}
use Rattle.findf.specs.Demand.{looks_by, looks_at, looks_due, due, rows_due}
use Rattle.findf.proofs.WalkLaws.{Good, μ, step_fine, few_looks, few_rows, good_start}
use Rattle.findf.specs.Findf.{State, step_by, step_of, turn_of, walk_of, walk_steps}
use Rattle.findf.specs.Inputs.{Inputs}
use Rattle.findf.specs.declared.look.Looked.{Looked}
use Rattle.findf.specs.declared.walk.Walk.{Walk}
use Rattle.findf.specs.declared.walk.Label.{Label}
use Rattle.findf.specs.declared.walk.Label.TheVariants.{Search, NextLayer, Fill, NextCusp, Done}
use Rattle.findf.specs.declared.walk.Fill as F
use Rattle.findf.specs.declared.Reflectrix.{Reflectrix}

abbrev pub stops_at : State → Bool
stops_at s = done_at s.0.label

-- Done is a fixed point of the step
done_fixed_at : (e : Inputs) (l : Label) (w : Walk) (r : Reflectrix) → done_at l ≡ true → step_by e l w r ≡ (w, r)
unfolding step_by
done_fixed_at e Search w r d = let z : ◌≡◌ {A = ℕ} 0 1 = cc in absurd (omega arith)
done_fixed_at e NextLayer w r d = let z : ◌≡◌ {A = ℕ} 0 1 = cc in absurd (omega arith)
done_fixed_at e (Fill fill) w r d = let z : ◌≡◌ {A = ℕ} 0 1 = cc in absurd (omega arith)
done_fixed_at e NextCusp w r d = let z : ◌≡◌ {A = ℕ} 0 1 = cc in absurd (omega arith)
done_fixed_at e Done w r d = refl

pub done_fixed : (e : Inputs) (s : State) → stops_at s ≡ true → step_of e s ≡ s
unfolding step_of
done_fixed e s d = done_fixed_at e s.0.label s.0 s.1 d

-- ---- what a step adds to the counts
module _ (w : Walk) where
  search_looks : (dead over beyond cusp : Bool) (l : Looked) (n : ℕ) → l.looks ≡ w.looks + n → (search_by dead over beyond cusp w l).looks ≡ w.looks + looks_by dead over beyond cusp n
  unfolding search_by
  search_looks true over beyond cusp l n h = omega arith
  search_looks false true beyond cusp l n h = omega arith
  search_looks false false true cusp l n h = omega arith
  search_looks false false false true l n h = omega arith
  search_looks false false false false l n h = h

  search_rows : (dead over beyond cusp : Bool) (l : Looked) → (search_by dead over beyond cusp w l).rows ≡ w.rows + 0
  unfolding search_by
  search_rows true over beyond cusp l = omega arith
  search_rows false true beyond cusp l = omega arith
  search_rows false false true cusp l = omega arith
  search_rows false false false true l = omega arith
  search_rows false false false false l = omega arith

  next_layer_counts : (first f1 second : Bool) → ((next_layer_by first f1 second w).looks ≡ w.looks + 0) × ((next_layer_by first f1 second w).rows ≡ w.rows + 0)
  unfolding next_layer_by
  next_layer_counts true true second = omega arith
  next_layer_counts true false second = omega arith
  next_layer_counts false f1 true = omega arith
  next_layer_counts false f1 false = omega arith

  next_cusp_counts : (third over : Bool) → ((next_cusp_by third over w).looks ≡ w.looks + 0) × ((next_cusp_by third over w).rows ≡ w.rows + 0)
  unfolding next_cusp_by
  next_cusp_counts true over = omega arith
  next_cusp_counts false true = omega arith
  next_cusp_counts false false = omega arith

  filled_counts : (full : Bool) (fill : F.Fill) → ((filled_by full fill w).looks ≡ w.looks + 0) × ((filled_by full fill w).rows ≡ w.rows + 1)
  unfolding filled_by
  filled_counts true fill = omega arith
  filled_counts false fill = omega arith

step_looks : (e : Inputs) (l : Label) (w : Walk) (r : Reflectrix) → (step_by e l w r).0.looks ≡ w.looks + looks_at e l w
unfolding step_by search_of next_layer_of next_cusp_of filled_of looks_at
step_looks e Search w r = search_looks w _ _ _ _ _ _ (looks_are_turns e.tables.ifob e.jfhz (w.ia * 30) w.ilow w.ihigh w.ih w.looks)
step_looks e NextLayer w r = (next_layer_counts w _ _ _).0
step_looks e NextCusp w r = (next_cusp_counts w _ _).0
step_looks e (Fill fill) w r = (filled_counts w (leb 45 (w.rows + 1)) fill).0
step_looks e Done w r = omega arith

pub step_rows : (e : Inputs) (l : Label) (w : Walk) (r : Reflectrix) → (step_by e l w r).0.rows ≡ w.rows + due l
unfolding step_by search_of next_layer_of next_cusp_of filled_of
step_rows e Search w r = search_rows w _ _ _ _ _
step_rows e NextLayer w r = (next_layer_counts w _ _ _).1
step_rows e NextCusp w r = (next_cusp_counts w _ _).1
step_rows e (Fill fill) w r = (filled_counts w (leb 45 (w.rows + 1)) fill).1
step_rows e Done w r = omega arith

-- no look and no row at Done
done_adds : (e : Inputs) (l : Label) (w : Walk) → done_at l ≡ true → (looks_at e l w ≡ 0) × (due l ≡ 0)
unfolding looks_at
done_adds e Search w d = let z : ◌≡◌ {A = ℕ} 0 1 = cc in absurd (omega arith)
done_adds e NextLayer w d = (refl, refl)
done_adds e (Fill fill) w d = let z : ◌≡◌ {A = ℕ} 0 1 = cc in absurd (omega arith)
done_adds e NextCusp w d = (refl, refl)
done_adds e Done w d = (refl, refl)

module _ (e : Inputs) where
  -- of a state that comes from the start
  abbrev pub Reached : State → Type 0
  Reached s = Good e.nang s.0

  abbrev pub left : State → ℕ
  left s = μ s.0.label s.0

  turn_less_by : (b : Bool) (s : State) → stops_at s ≡ b → Reached s → Lessens Reached left (left s) (stop_by b s (step_of e s))
  unfolding step_of
  turn_less_by true s d g = tt
  turn_less_by false s d g = let f = step_fine e s.0.label s.0 s.1 d g in (f.good, f.falls)

  turn_less : (s : State) → Reached s → Lessens Reached left (left s) (turn_of e s)
  unfolding until
  turn_less s g = turn_less_by (stops_at s) s refl g

  abbrev looks_of_state : State → ℕ
  looks_of_state s = s.0.looks

  looks_raise_by : (b : Bool) (s : State) → stops_at s ≡ b → Raised looks_of_state looks_of_state (looks_of_state s + looks_due e s) (stop_by b s (step_of e s))
  unfolding step_of
  looks_raise_by true s d = omega (arith, (done_adds e s.0.label s.0 d).0)
  looks_raise_by false s d = step_looks e s.0.label s.0 s.1

  looks_raise : (s : State) → Reached s → Raised looks_of_state looks_of_state (looks_of_state s + looks_due e s) (turn_of e s)
  unfolding until
  looks_raise s g = looks_raise_by (stops_at s) s refl

  -- a number that each step raises by c, which is 0 at Done: after n steps it has risen by the count
  module _ (v c : State → ℕ) (raises : (s : State) → v (step_of e s) ≡ v s + c s) (idle : (s : State) → stops_at s ≡ true → c s ≡ 0) where
    counts_on : (n : ℕ) (g : (s : State) → v (iterate n (step_of e) s) ≡ v s + count (turn_of e) c n s) (s : State) (b : Bool) → stops_at s ≡ b
        → v (iterate n (step_of e) (step_of e s)) ≡ v s + (c s + rest (count (turn_of e) c n) (stop_by b s (step_of e s)))
    counts_on n g s true d =
        let still = done_fixed e s d in
        ap v (ap (iterate n (step_of e)) still ∙ iterate_fixed (step_of e) n s still) ∙ omega (arith, idle s d)
    counts_on n g s false d = omega (arith, g (step_of e s), raises s)

    counts_iterate : (n : ℕ) (s : State) → v (iterate n (step_of e) s) ≡ v s + count (turn_of e) c n s
    unfolding iterate count until
    counts_iterate zero s = omega arith
    counts_iterate (suc n) s = counts_on n (counts_iterate n) s (stops_at s) refl

  rows_raise : (s : State) → (step_of e s).0.rows ≡ s.0.rows + rows_due s
  unfolding step_of
  rows_raise s = step_rows e s.0.label s.0 s.1

  looks_step : (s : State) → (step_of e s).0.looks ≡ s.0.looks + looks_due e s
  unfolding step_of
  looks_step s = step_looks e s.0.label s.0 s.1

  -- the rows after n steps are those before and the steps among the n that write one; the looks, those before and the turns of the inner loop in the n
  pub rows_iterate : (n : ℕ) (s : State) → (iterate n (step_of e) s).0.rows ≡ s.0.rows + count (turn_of e) rows_due n s
  rows_iterate = counts_iterate (λ (s : State). s.0.rows) rows_due rows_raise (λ s d. (done_adds e s.0.label s.0 d).1)

  pub looks_iterate : (n : ℕ) (s : State) → (iterate n (step_of e) s).0.looks ≡ s.0.looks + count (turn_of e) (looks_due e) n s
  looks_iterate = counts_iterate looks_of_state (looks_due e) looks_step (λ s d. (done_adds e s.0.label s.0 d).0)

  -- a step from a reached state reaches one
  reaches_by : (b : Bool) (s : State) → stops_at s ≡ b → Reached s → Reached (step_of e s)
  unfolding step_of
  reaches_by true s d g = subst Reached (sym (done_fixed_at e s.0.label s.0 s.1 d)) g
  reaches_by false s d g = (step_fine e s.0.label s.0 s.1 d g).good

  pub reaches : (s : State) → Reached s → Reached (step_of e s)
  reaches s g = reaches_by (stops_at s) s refl g

  stops : (b : Bool) (s : State) → stops_at s ≡ b → Kept (λ (t : State). Unit {0}) (λ (t : State). stops_at t ≡ true) (stop_by b s (step_of e s))
  stops true s d = d
  stops false s d = tt

  turn_stops : (s : State) → Unit {0} → Kept (λ (t : State). Unit {0}) (λ (t : State). stops_at t ≡ true) (turn_of e s)
  unfolding until
  turn_stops s u = stops (stops_at s) s refl

  left_pos : (s : State) → 0 < left s
  left_pos s = omega arith

  module _ (nang_cap : e.nang ≤ 40) (r : Reflectrix) where
    reached_start : Reached (start, r)
    reached_start = good_start e.nang nang_cap

    -- the same for every fuel at or above the measure and every default
    pub walk_same : (d : State) (n : ℕ) → walk_steps ≤ n → run (turn_of e) d n (start, r) ≡ walk_of e r
    unfolding walk_of
    walk_same d n h = run_same (turn_of e) Reached left turn_less left_pos d (start, r) n walk_steps (start, r) reached_start h (omega arith)

    -- the step iterated
    pub walk_iterate : (n : ℕ) → walk_steps ≤ n → walk_of e r ≡ iterate n (step_of e) (start, r)
    walk_iterate n h =
        sym (walk_same (start, r) n h) ∙ run_iterate stops_at (step_of e) (done_fixed e) Reached left turn_less left_pos (start, r) n (start, r) reached_start h

    -- m steps first, and then the rest
    pub walk_resumes : (m n : ℕ) → walk_steps ≤ n → iterate n (step_of e) (iterate m (step_of e) (start, r)) ≡ walk_of e r
    walk_resumes m n h = sym (walk_iterate (m + n) (omega arith) ∙ iterate_add (step_of e) m n (start, r))

    -- every state from the start on
    pub reached : (n : ℕ) → Reached (iterate n (step_of e) (start, r))
    reached n = iterate_keeps (step_of e) Reached reaches n (start, r) reached_start

    pub walk_reached : Reached (walk_of e r)
    walk_reached = subst Reached (sym (walk_iterate walk_steps (omega arith))) (reached walk_steps)

    -- "looks ≤ nang + 28", "rows ≤ nang + 4"
    pub walk_few : ((walk_of e r).0.looks ≤ e.nang + 28) × ((walk_of e r).0.rows ≤ e.nang + 4)
    walk_few = (few_looks walk_reached, few_rows walk_reached)

    -- the row that a fill is to write included
    pub fill_few : (n : ℕ) (fill : F.Fill) → (iterate n (step_of e) (start, r)).0.label ≡ Fill fill → (iterate n (step_of e) (start, r)).0.rows + 1 ≤ e.nang + 4
    fill_few n fill l = omega (arith, (reached n).rows_cap, ap due l)

    -- so the stop at 45 rows is never taken
    pub stop_never : (n : ℕ) (fill : F.Fill) → (iterate n (step_of e) (start, r)).0.label ≡ Fill fill → leb 45 ((iterate n (step_of e) (start, r)).0.rows + 1) ≡ false
    stop_never n fill l = lt-leb 45 ((iterate n (step_of e) (start, r)).0.rows + 1) (omega (arith, fill_few n fill l))

    -- it ends at Done, not for want of fuel
    pub walk_done : stops_at (walk_of e r) ≡ true
    walk_done =
        subst (λ (s : State). stops_at s ≡ true) (walk_same (with_label start Done, r) walk_steps (omega arith))
        (run_keeps (turn_of e) (with_label start Done, r) (λ (t : State). Unit {0}) (λ (t : State). stops_at t ≡ true) turn_stops refl walk_steps (start, r) tt)

    -- looks are the turns of the inner loop, and rows the steps that write one
    pub walk_looks : (walk_of e r).0.looks ≡ count (turn_of e) (looks_due e) walk_steps (start, r)
    unfolding walk_of
    walk_looks =
        run_counts (turn_of e) Reached left turn_less left_pos (looks_due e) looks_of_state looks_of_state looks_raise (start, r) walk_steps (start, r) reached_start (omega arith)
        ∙ zero-add _

    pub walk_rows : (walk_of e r).0.rows ≡ count (turn_of e) rows_due walk_steps (start, r)
    walk_rows = ap (λ (s : State). s.0.rows) (walk_iterate walk_steps (omega arith)) ∙ rows_iterate walk_steps (start, r) ∙ zero-add _
