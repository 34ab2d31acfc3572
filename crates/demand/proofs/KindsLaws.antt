-- Order 2 holds of every accepted job: of its solution, and of the bytes that the job call leaves. Assumes nothing.
use Prim.Native.Nat.{ℕ, ◌-◌, ◌≤◌, ◌<◌}
use mathlib.Core.Path.{◌≡◌, refl, sym, ap, subst, ◌∙◌}
use mathlib.Core.List.{List}
use native.Mathlib.Omega.{arith}
use lib.ListN.{length, get_or, length-replicate}
use lib.Ieee.{Float, nan}
use Rattle.arith.specs.Floats.{◌⊕◌, f32}
use Rattle.arith.specs.Numbers.{0·0, 0·001}
use Rattle.words.specs.Lists.{tab}
use Rattle.words.proofs.ListLaws.{length_tab, get_d_tab}
use Rattle.limits.specs.Limits.{broken}
use Rattle.findf.specs.Demand.{nonzero}
use Rattle.findf.proofs.RowsLaws.{Sized}
use Rattle.findf.proofs.FindfLaws as findf
use Rattle.findf.proofs.FitLaws.{Fitting, walked_fits}
use Rattle.findf.proofs.KindLaws as kinds
use Rattle.job.specs.Parts.{Parts, job_of, limits_of}
use Rattle.job.specs.Solved.{Solved, all_zero, solved_of}
use Rattle.job.specs.Answer.{fields_of}
use Rattle.demand.specs.Demand3.{word_in}
use Rattle.demand.specs.Kinds.{WrittenAs, Kinds, OfSolved, OfBytes}
use Rattle.demand.proofs.PlaceLaws.{count_in, content_in, word_at}
use Rattle.demand.proofs.Demand3Laws.{found, solved_is, three, zero_fits, number_back, answer, rows_back, tables_fit, accepted, left_is}

zero_sized : Sized all_zero
zero_sized =
    let z = length-replicate 45 0·0 in
    let n = length-replicate {A = ℕ} 45 0 in
    record { len_del = z; len_hp = z; len_ht = z; len_gdr = z; len_fv = z; len_af = z; len_mode = n; len_kind = n }

-- the number of kinds that are not 0, wherever the first `rows` are and no other is
counted : (rows : ℕ) (kind : ℕ → ℕ) → rows ≤ 45 → ((i : ℕ) → i < rows → 1 ≤ kind i) → ((i : ℕ) → rows ≤ i → i < 45 → kind i ≡ 0) → nonzero (tab 45 kind) ≡ rows
counted rows kind few a b =
    let len : length (tab 45 kind) ≡ 45 = length_tab 45 kind in
    let at : (i : ℕ) → i < 45 → get_or (tab 45 kind) i 0 ≡ kind i = λ i h. get_d_tab 45 kind i 0 h in
    kinds.nonzero_first (tab 45 kind) rows (omega (arith, len)) (λ i h. omega (arith, at i (omega arith), a i h)) (λ i h l. at i (omega (arith, len)) ∙ b i h (omega (arith, len)))

module _ (p : Parts) (ok : broken (limits_of p) ≡ 0) where
  of_found : let r = (found p ok).rfx in Kinds p r.rows_this_call (λ i. get_or r.kind i 0) (λ i. get_or r.delfx i nan)
  of_found =
      let walks = (three p ok).0 in
      let range = kinds.kind_range all_zero p.walk walks zero_sized in
      let beyond = findf.kind_beyond all_zero p.walk walks in
      record {
        kind_written = λ i h.
            let f = kinds.filled_by_lem all_zero p.walk walks i h in
            let k = kinds.kind_follows all_zero p.walk walks zero_sized i h in
            record { after = f.after; writes = k.0; row_is = f.row_is; kind_is = k.1 };
        kind_range = range;
        after_cusp = λ i h k. let a = kinds.answer_after_cusp all_zero p.walk walks zero_sized i h k in (a.later, (a.cusp_before, a.angle_on));
        kind_beyond = beyond;
        kind_count = counted _ _ (omega (arith, findf.rows_few all_zero p.walk walks, (three p ok).2)) (λ i h. (range i h).0) beyond;
      }

  of_solution : Kinds p (solved_of p).rfx.rows_this_call (λ i. get_or (solved_of p).rfx.kind i 0) (λ i. get_or (solved_of p).rfx.delfx i nan)
  of_solution =
      subst (λ (s : Solved). Kinds p s.rfx.rows_this_call (λ i. get_or s.rfx.kind i 0) (λ i. get_or s.rfx.delfx i nan)) (sym (solved_is p ok)) of_found

pub kinds_solved : OfSolved
kinds_solved = of_solution

-- ---- the bytes

-- the same rows, and the same kinds and angles of the 45 rows
carry : (p : Parts) {rows rows' : ℕ} {kind kind' : ℕ → ℕ} {angle angle' : ℕ → Float} → rows ≤ 45 → rows' ≡ rows → ((i : ℕ) → i < 45 → kind' i ≡ kind i)
    → ((i : ℕ) → i < 45 → angle' i ≡ angle i) → Kinds p rows kind angle → Kinds p rows' kind' angle'
carry p {rows} {rows'} {kind} {kind'} {angle} {angle'} few er ek ea was =
    let row : (i : ℕ) → i < rows' → i < rows = λ i h. omega (arith, er) in
    let in45 : (i : ℕ) → i < rows' → i < 45 = λ i h. omega (arith, er) in
    let range : (i : ℕ) → i < rows' → (1 ≤ kind' i) × (kind' i ≤ 4) = λ i h. omega (arith, was.kind_range i (row i h), ek i (in45 i h)) in
    let beyond : (i : ℕ) → rows' ≤ i → i < 45 → kind' i ≡ 0 = λ i h l. ek i l ∙ was.kind_beyond i (omega (arith, er)) l in
    record {
      kind_written = λ i h. subst (WrittenAs p i) (sym (ek i (in45 i h))) (was.kind_written i (row i h));
      kind_range = range;
      after_cusp = λ i h k.
          let l = in45 i h in
          let a = was.after_cusp i (row i h) (sym (ek i l) ∙ k) in
          let m : i - 1 < 45 = omega arith in
          (a.0, (ek (i - 1) m ∙ a.1.0, ea i l ∙ a.1.1 ∙ ap (λ (x : Float). x ⊕ 0·001) (sym (ea (i - 1) m))));
      kind_beyond = beyond;
      kind_count = counted rows' kind' (omega (arith, er)) (λ i h. (range i h).0) beyond;
    }

module _ (s : Solved) (fit : Fitting s.rfx) where
  kind_back : (i : ℕ) → i < 45 → word_in (answer s) "kind" i ≡ get_or s.rfx.kind i 0
  unfolding count_in content_in
  kind_back i h = word_at (fields_of s) "kind" i _ h refl (omega (arith, fit.kinds i))

  angle_back : (i : ℕ) → i < 45 → f32 (word_in (answer s) "delfx" i) ≡ get_or s.rfx.delfx i nan
  unfolding count_in content_in
  angle_back i h = number_back (fields_of s) "delfx" i _ h refl (fit.dels.each i)

of_bytes : OfBytes
of_bytes job entry ok =
    let p = job_of job in
    let fine = accepted job entry ok in
    let s = found p fine in
    let walks = (three p fine).0 in
    let few = findf.rows_few all_zero p.walk walks in
    let cap = (three p fine).2 in
    let t = tables_fit job in
    let fit = walked_fits all_zero p.walk walks t.0 t.1 t.2 (zero_fits p fine) in
    subst (λ (a : List ℕ). Kinds p (word_in a "rows" 0) (word_in a "kind") (λ i. f32 (word_in a "delfx" i))) (sym (left_is job entry ok))
    (carry p (omega (arith, few, cap)) (rows_back s (omega (arith, few, cap))) (kind_back s fit) (angle_back s fit) (of_found p fine))

pub kinds_bytes : OfBytes
kinds_bytes = of_bytes
