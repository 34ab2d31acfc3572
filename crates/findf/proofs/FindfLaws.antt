-- Laws of findf for every accepted job, whatever the tables hold. Assumes nothing.
-- `findf_walks`: the answer is that of the walk. `looks_few`, `rows_few`: looks ≤ nang + 28, rows ≤ nang + 4. `looks_turns`, `rows_steps`: looks are the
-- turns of the inner loop, rows the steps that write one. `row_written`: each fill's row is in the answer. `row_number`: its number, counted from 0, is
-- that of the fills before it.
use Rattle.std.proofs.Common.{◌≡◌, ℕ, zero, suc, ◌+◌, ◌<◌, ◌≤◌, get_or, sym, refl, ◌∙◌, subst, zero-add, arith, leb-true}
use lib.Ieee.{nan}
use Rattle.arith.specs.Numbers.{0·0}
use Rattle.arith.specs.Run.{count}
use Rattle.limits.specs.Limits.{broken}
use Rattle.limits.proofs.LimitsLaws.{unbroken}
use Rattle.findf.specs.Walk.{start}
use Rattle.findf.specs.Findf.{State, turn_of, walk_of, walked_of, angles_of, limits_of, findf_by, findf_of, walk_steps}
use Rattle.findf.specs.Inputs.{Job, Inputs}
use Rattle.findf.specs.Demand as demand
use Rattle.findf.specs.Demand.{looks_due, rows_due, row_at, RowIs}
use Rattle.findf.proofs.StepLaws.{rows_iterate, looks_iterate, walk_iterate, walk_resumes, walk_few, fill_few, walk_looks, walk_rows}
use Rattle.findf.proofs.RowsLaws.{Sized, sized_throughout, begun_sized, filled_stays, Beyond, beyond_zero, begun_beyond}
use Rattle.findf.specs.declared.walk.Label.TheVariants.{Fill}
use Rattle.findf.specs.declared.walk.Fill as F
use Rattle.findf.specs.declared.Reflectrix.{Reflectrix}
use Rattle.findf.specs.declared.Walked.{Walked}

module _ (r : Reflectrix) (j : Job) where
  abbrev pub Accepted : Type 0
  Accepted = broken (limits_of j) ≡ 0

  abbrev pub answer_of : Walked
  answer_of = findf_of r j

  -- what the walk reads, what it starts with, and its state after n steps
  abbrev read : Inputs
  read = demand.read j

  abbrev first : Reflectrix
  first = demand.first r j

  abbrev state_at : ℕ → State
  state_at = demand.state_at r j

  -- its `rows` is the number of the fills among them
  pub row_number : (n : ℕ) → (state_at n).0.rows ≡ count (turn_of read) rows_due n (start, first)
  row_number n = rows_iterate read n (start, first) ∙ zero-add _

  -- and its `looks` that of the looks in them
  pub look_number : (n : ℕ) → (state_at n).0.looks ≡ count (turn_of read) (looks_due read) n (start, first)
  look_number n = looks_iterate read n (start, first) ∙ zero-add _

  module _ (ok : Accepted) where
    pub nang_cap : j.nang ≤ 40
    unfolding limits_of
    nang_cap = leb-true j.nang 40 (unbroken _ _ _ (unbroken _ _ _ ok).1).0

    -- the answer is that of the walk
    pub findf_walks : answer_of ≡ walked_of read first
    unfolding findf_of findf_by
    findf_walks = rw ok

    -- what lies beyond the rows written
    pub walk_beyond : Beyond (walk_of read first)
    walk_beyond = subst Beyond (sym (walk_iterate read nang_cap first walk_steps (omega arith))) (beyond_zero read first (begun_beyond r (angles_of j)) walk_steps)

    -- the reflectrix counts its rows as the walk does
    pub rows_counted : (walk_of read first).1.rows_this_call ≡ (walk_of read first).0.rows
    rows_counted = walk_beyond.counted

    -- "looks ≤ nang + 28" and "rows ≤ nang + 4"
    pub looks_few : answer_of.looks ≤ j.nang + 28
    unfolding walked_of
    looks_few = rw findf_walks (walk_few read nang_cap first).0

    pub rows_few : answer_of.rfx.rows_this_call ≤ j.nang + 4
    unfolding walked_of
    rows_few = rw findf_walks (omega (arith, rows_counted, (walk_few read nang_cap first).1))

    -- looks are the turns of the inner loop, rows the steps that write one
    pub looks_turns : answer_of.looks ≡ count (turn_of read) (looks_due read) walk_steps (start, first)
    unfolding walked_of
    looks_turns = rw findf_walks (walk_looks read nang_cap first)

    pub rows_steps : answer_of.rfx.rows_this_call ≡ count (turn_of read) rows_due walk_steps (start, first)
    unfolding walked_of
    rows_steps = rw findf_walks (rows_counted ∙ walk_rows read nang_cap first)

    -- the row that a fill writes after n steps is row `rows` of the answer, counted from 0
    pub row_written : Sized r → (n : ℕ) (fill : F.Fill) → (state_at n).0.label ≡ Fill fill
        → RowIs (state_at n).0.rows (row_at read fill (state_at n).0 (state_at n).1) answer_of.rfx
    unfolding walked_of
    row_written z n fill l =
        let s = state_at n in
        rw findf_walks
        (subst (λ (t : State). RowIs s.0.rows (row_at read fill s.0 s.1) t.1) (walk_resumes read nang_cap first n (suc walk_steps) (omega arith))
        (filled_stays read s fill l (sized_throughout read first (begun_sized r (angles_of j) z) n) (omega (arith, fill_few read nang_cap first n fill l, nang_cap)) walk_steps))

    -- heights are +0 from the first row that is not written on
    pub answer_beyond : (i : ℕ) → answer_of.rfx.rows_this_call ≤ i → i < 45 → get_or answer_of.rfx.hpflx i nan ≡ 0·0
    unfolding walked_of
    answer_beyond i h l = rw findf_walks (walk_beyond.zero_hp i (omega (arith, rows_counted, rw findf_walks at h)) l)

    -- and so are the kinds
    pub kind_beyond : (i : ℕ) → answer_of.rfx.rows_this_call ≤ i → i < 45 → get_or answer_of.rfx.kind i 0 ≡ 0
    unfolding walked_of
    kind_beyond i h l = rw findf_walks (walk_beyond.zero_kind i (omega (arith, rows_counted, rw findf_walks at h)) l)

    -- columns of 45 rows stay so
    pub answer_sized : Sized r → Sized answer_of.rfx
    unfolding walked_of
    answer_sized z =
        rw findf_walks
        (subst (λ (s : State). Sized s.1) (sym (walk_iterate read nang_cap first walk_steps (omega arith))) (sized_throughout read first (begun_sized r (angles_of j) z) walk_steps))

  -- ---- the answer's number, and what a refusal leaves
  refusal_by : (n : ℕ) → (findf_by n r j).refusal ≡ n
  unfolding findf_by walked_of
  refusal_by zero = refl
  refusal_by (suc n) = refl

  pub findf_refusal : answer_of.refusal ≡ broken (limits_of j)
  unfolding findf_of
  findf_refusal = refusal_by _

  turned_by : (n : ℕ) → (n ≡ 0 → ⊥) → (findf_by n r j).rfx ≡ r
  unfolding findf_by
  turned_by zero h = absurd (h refl)
  turned_by (suc n) h = refl

  pub findf_turned : (Accepted → ⊥) → answer_of.rfx ≡ r
  unfolding findf_of
  findf_turned h = turned_by _ h
