-- Laws of the rows' kinds (order 2). Assumes nothing.
-- `kind_unread`, `kinds_unread`: no step reads a kind; with other kinds at the start the walk and every other field are the same, and each kind written too.
-- `kind_after_cusp`: in every state that comes from a start a row of kind 4 stands right after a row of kind 3, at that row's angle + 0.001.
-- Of an accepted answer: `kind_is`: a row has the kind of the fill that wrote it; `kind_range`: so it is 1 to 4; from rows on it is 0 (FindfLaws,
-- `kind_beyond`), whatever the reflectrix held (`kind_whatever`); `kind_count`: so rows is the number of kinds that are not 0; `answer_after_cusp`: 4 comes after 3.
use Rattle.std.proofs.Common.{◌≡◌, ℕ, zero, suc, ◌+◌, ◌-◌, ◌*◌, ◌<◌, ◌≤◌, Bool, true, false, leb, List, [], ◌∷◌, length, get_or, set, sym, refl, ap, ◌∙◌, subst, arith, leb-false, leb-true}
use lib.Ieee.{Float, nan}
use Rattle.arith.specs.Floats.{◌⊕◌}
use Rattle.arith.specs.Numbers.{0·001}
use Rattle.arith.specs.Run.{iterate}
use Rattle.arith.proofs.RunLaws.{iterate_keeps}
use Rattle.findf.specs.Walk.{search_by, search_of, next_layer_by, next_layer_of, next_cusp_by, next_cusp_of, filled_by, filled_of, start}
use Rattle.findf.specs.Rows.{kind_of, raw_of, row_of}
use Rattle.findf.specs.Demand as demand
use Rattle.findf.specs.Demand.{row_at, RowIs, rows_due, kind_at, kind_due, due, nonzero}
use Rattle.findf.specs.Findf.{State, fill_of, step_by, step_of, walk_of, walked_of, walk_steps, angles_of, findf_of}
use Rattle.findf.specs.Inputs.{Job, Inputs}
use Rattle.findf.proofs.LookLaws.{Seen, looks_leave}
use Rattle.findf.proofs.WalkLaws.{Bounds, Good, cusped, good_start}
use Rattle.findf.proofs.StepLaws.{reaches, step_rows, walk_iterate}
use Rattle.findf.proofs.RowsLaws.{Sized, fill_writes, fill_spares, step_sized, begun_sized, FilledBy, rows_have_fills}
use Rattle.findf.proofs.FindfLaws as laws
use Rattle.findf.specs.declared.look.Looked.{Looked}
use Rattle.findf.specs.declared.walk.Walk.{Walk}
use Rattle.findf.specs.declared.walk.Label.{Label}
use Rattle.findf.specs.declared.walk.Label.TheVariants.{Search, NextLayer, Fill, NextCusp, Done}
use Rattle.findf.specs.declared.walk.Fill as F
use Rattle.findf.specs.declared.walk.Fill.TheVariants.{Exact, Interp, Cusp, NextCusp360}
use Rattle.findf.specs.declared.Reflectrix.{Reflectrix}
use Rattle.findf.specs.declared.Walked.{Walked}

-- ---- no step reads a kind

-- the reflectrix with other kinds
abbrev pub with_kind : Reflectrix → List ℕ → Reflectrix
with_kind r ks =
    record {
      delfx = r.delfx;
      hpflx = r.hpflx;
      htflx = r.htflx;
      gdflx = r.gdflx;
      fvflx = r.fvflx;
      afflx = r.afflx;
      imode = r.imode;
      kind = ks;
      dskpkm = r.dskpkm;
      delskp = r.delskp;
      hpskp = r.hpskp;
      htskp = r.htskp;
      dmaxkm = r.dmaxkm;
      fvskp = r.fvskp;
      iskp = r.iskp;
      delpen = r.delpen;
      iaftxr = r.iaftxr;
      rows_this_call = r.rows_this_call;
    }

-- what a step does with the kinds: a fill writes its own at row `rows`
abbrev pub kinds_by : Label → Walk → List ℕ → List ℕ
kinds_by (Fill fill) w ks = set ks w.rows (kind_of fill)
kinds_by Search w ks = ks
kinds_by NextLayer w ks = ks
kinds_by NextCusp w ks = ks
kinds_by Done w ks = ks

pub kind_unread : (e : Inputs) (l : Label) (w : Walk) (r : Reflectrix) (ks : List ℕ)
    → step_by e l w (with_kind r ks) ≡ ((step_by e l w r).0, with_kind (step_by e l w r).1 (kinds_by l w ks))
unfolding step_by fill_of row_of raw_of
kind_unread e Search w r ks = refl
kind_unread e NextLayer w r ks = refl
kind_unread e NextCusp w r ks = refl
kind_unread e (Fill Exact) w r ks = refl
kind_unread e (Fill Interp) w r ks = refl
kind_unread e (Fill Cusp) w r ks = refl
kind_unread e (Fill NextCusp360) w r ks = refl
kind_unread e Done w r ks = refl

module _ (e : Inputs) where
  -- the kinds after n steps from a state, of those before
  unfoldable pub kinds_after : ℕ → State → List ℕ → List ℕ
  kinds_after zero s ks = ks
  kinds_after (suc n) s ks = kinds_after n (step_of e s) (kinds_by s.0.label s.0 ks)

  pub kinds_unread : (n : ℕ) (s : State) (ks : List ℕ)
      → iterate n (step_of e) (s.0, with_kind s.1 ks) ≡ ((iterate n (step_of e) s).0, with_kind (iterate n (step_of e) s).1 (kinds_after n s ks))
  unfolding iterate kinds_after step_of
  kinds_unread zero s ks = refl
  kinds_unread (suc n) s ks =
      ap (iterate n (step_of e)) (kind_unread e s.0.label s.0 s.1 ks) ∙ kinds_unread n (step_of e s) (kinds_by s.0.label s.0 ks)

-- ---- 4 comes after 3

-- row j stands right after a row of kind 3, at that row's angle + 0.001
pub record AfterCusp (j : ℕ) (r : Reflectrix) : Type 0 where
  pub later : 1 ≤ j
  pub cusp_before : get_or r.kind (j - 1) 0 ≡ 3
  pub angle_on : get_or r.delfx j nan ≡ get_or r.delfx (j - 1) nan ⊕ 0·001

-- each row of kind 4 does; and where a cusp was just written, the last row is of kind 3
record Paired (l : Label) (w : Walk) (r : Reflectrix) : Type 0 where
  cusp_last : 1 ≤ cusped l → get_or r.kind (w.rows - 1) 0 ≡ 3
  after_cusps : (j : ℕ) → j < w.rows → get_or r.kind j 0 ≡ 4 → AfterCusp j r

paired_other : {l : Label} {w v : Walk} {r : Reflectrix} → v.rows ≡ w.rows + 0 → cusped v.label ≤ cusped l → Paired l w r → Paired v.label v r
paired_other {l} {w} {v} {r} q h p =
    let same : v.rows ≡ w.rows = omega arith in
    record {
      cusp_last = λ k. ap (λ (n : ℕ). get_or r.kind (n - 1) 0) same ∙ p.cusp_last (omega arith);
      after_cusps = λ j b. p.after_cusps j (omega arith);
    }

led_uncusped : (l : Label) → Seen l → cusped l ≡ 0
led_uncusped Search s = refl
led_uncusped NextLayer s = absurd s
led_uncusped (Fill Exact) s = refl
led_uncusped (Fill Interp) s = refl
led_uncusped (Fill Cusp) s = absurd s
led_uncusped (Fill NextCusp360) s = absurd s
led_uncusped NextCusp s = absurd s
led_uncusped Done s = refl

module _ (w : Walk) where
  search_uncusped : (dead over beyond cusp : Bool) (l : Looked) → Seen l.label → cusped (search_by dead over beyond cusp w l).label ≤ 0
  unfolding search_by
  search_uncusped true over beyond cusp l s = omega arith
  search_uncusped false true beyond cusp l s = omega arith
  search_uncusped false false true cusp l s = omega arith
  search_uncusped false false false true l s = omega arith
  search_uncusped false false false false l s = omega (arith, led_uncusped l.label s)

  next_layer_uncusped : (first f1 second : Bool) → cusped (next_layer_by first f1 second w).label ≤ 0
  unfolding next_layer_by
  next_layer_uncusped true true second = omega arith
  next_layer_uncusped true false second = omega arith
  next_layer_uncusped false f1 true = omega arith
  next_layer_uncusped false f1 false = omega arith

  next_cusp_cusped : (third over : Bool) → cusped (next_cusp_by third over w).label ≤ 1
  unfolding next_cusp_by
  next_cusp_cusped true over = omega arith
  next_cusp_cusped false true = omega arith
  next_cusp_cusped false false = omega arith

  -- a fill leaves a cusp behind where it writes one
  filled_cusped : (full : Bool) (fill : F.Fill) → 1 ≤ cusped (filled_by full fill w).label → kind_of fill ≡ 3
  unfolding filled_by
  filled_cusped true fill h = absurd (omega arith)
  filled_cusped false Exact h = absurd (omega arith)
  filled_cusped false Interp h = absurd (omega arith)
  filled_cusped false Cusp h = refl
  filled_cusped false NextCusp360 h = absurd (omega arith)

apart : (i j : ℕ) → j < i → j ≡ i → ⊥
apart i j h q = omega arith

module _ (e : Inputs) (w : Walk) (r : Reflectrix) where
  row_kind : (fill : F.Fill) → (row_at e fill w r).kind ≡ kind_of fill
  unfolding row_of
  row_kind fill = refl

  next_del : (row_at e NextCusp360 w r).del ≡ get_or r.delfx (w.rows - 1) nan ⊕ 0·001
  unfolding row_of raw_of
  next_del = refl

  -- the row that is written
  after_new : (fill : F.Fill) → Bounds e.nang (Fill fill) w → Paired (Fill fill) w r → RowIs w.rows (row_at e fill w r) (fill_of e fill w r)
      → kind_of fill ≡ 4 → AfterCusp w.rows (fill_of e fill w r)
  after_new Exact g p is k = absurd (omega arith)
  after_new Interp g p is k = absurd (omega arith)
  after_new Cusp g p is k = absurd (omega arith)
  after_new NextCusp360 g p is k =
      let some : 1 ≤ w.rows = g.rows_low in
      let spared = fill_spares e NextCusp360 w r (w.rows - 1) (apart w.rows (w.rows - 1) (omega arith)) in
      record {
        later = some;
        cusp_before = spared.same_kind ∙ p.cusp_last (omega arith);
        angle_on = is.is_del ∙ next_del ∙ ap (λ (x : Float). x ⊕ 0·001) (sym spared.same_del);
      }

  -- and those before it
  after_old : (fill : F.Fill) (j : ℕ) → j < w.rows → AfterCusp j r → AfterCusp j (fill_of e fill w r)
  after_old fill j h a =
      let here = fill_spares e fill w r j (apart w.rows j h) in
      let before = fill_spares e fill w r (j - 1) (apart w.rows (j - 1) (omega (arith, a.later))) in
      record {
        later = a.later;
        cusp_before = before.same_kind ∙ a.cusp_before;
        angle_on = here.same_del ∙ a.angle_on ∙ ap (λ (x : Float). x ⊕ 0·001) (sym before.same_del);
      }

  after_by : (b : Bool) (fill : F.Fill) (j : ℕ) → leb (suc j) w.rows ≡ b → j < w.rows + 1 → Bounds e.nang (Fill fill) w → Paired (Fill fill) w r
      → RowIs w.rows (row_at e fill w r) (fill_of e fill w r) → get_or (fill_of e fill w r).kind j 0 ≡ 4 → AfterCusp j (fill_of e fill w r)
  after_by true fill j t h g p is k =
      let old : j < w.rows = leb-true (suc j) w.rows t in
      after_old fill j old (p.after_cusps j old (sym (fill_spares e fill w r j (apart w.rows j old)).same_kind ∙ k))
  after_by false fill j t h g p is k =
      let new : w.rows ≡ j = omega (arith, leb-false (suc j) w.rows t) in
      subst (λ (i : ℕ). AfterCusp i (fill_of e fill w r)) new
      (after_new fill g p is (sym (is.is_kind ∙ row_kind fill) ∙ ap (λ (i : ℕ). get_or (fill_of e fill w r).kind i 0) new ∙ k))

  paired_fill : (fill : F.Fill) (v : Walk) → v.rows ≡ w.rows + 1 → (1 ≤ cusped v.label → kind_of fill ≡ 3) → w.rows < 45 → Sized r
      → Bounds e.nang (Fill fill) w → Paired (Fill fill) w r → Paired v.label v (fill_of e fill w r)
  paired_fill fill v q c few z g p =
      let is = fill_writes e fill w r z few in
      let last : v.rows - 1 ≡ w.rows = omega arith in
      record {
        cusp_last = λ h. ap (λ (i : ℕ). get_or (fill_of e fill w r).kind i 0) last ∙ is.is_kind ∙ row_kind fill ∙ c h;
        after_cusps = λ j h. after_by (leb (suc j) w.rows) fill j refl (omega arith) g p is;
      }

module _ (e : Inputs) where
  paired_by : (l : Label) (w : Walk) (r : Reflectrix) → w.label ≡ l → Sized r → Bounds e.nang l w → Paired l w r
      → Paired (step_by e l w r).0.label (step_by e l w r).0 (step_by e l w r).1
  unfolding step_by search_of next_layer_of next_cusp_of filled_of
  paired_by Search w r q z g p =
      paired_other (step_rows e Search w r) (search_uncusped w _ _ _ _ _ (looks_leave e.tables.ifob e.jfhz (w.ia * 30) w.ilow w.ihigh w.ih w.looks (omega arith)).seen) p
  paired_by NextLayer w r q z g p = paired_other (step_rows e NextLayer w r) (next_layer_uncusped w _ _ _) p
  paired_by NextCusp w r q z g p = paired_other (step_rows e NextCusp w r) (next_cusp_cusped w _ _) p
  paired_by (Fill fill) w r q z g p =
      paired_fill e w r fill (filled_of fill w) (step_rows e (Fill fill) w r) (filled_cusped w (leb 45 (w.rows + 1)) fill) (omega arith) z g p
  paired_by Done w r q z g p = paired_other (omega arith) (omega (arith, ap cusped q)) p

  record Held (s : State) : Type 0 where
    sized : Sized s.1
    good : Good e.nang s.0
    paired : Paired s.0.label s.0 s.1

  held_step : (s : State) → Held s → Held (step_of e s)
  unfolding step_of
  held_step s h =
      record {
        sized = step_sized e s h.sized;
        good = reaches e s h.good;
        paired = paired_by s.0.label s.0 s.1 refl h.sized h.good h.paired;
      }

  -- in every state that comes from a start
  pub kind_after_cusp : e.nang ≤ 40 → (r : Reflectrix) → Sized r → (n j : ℕ)
      → let s = iterate n (step_of e) (start, r) in j < s.0.rows → get_or s.1.kind j 0 ≡ 4 → AfterCusp j s.1
  kind_after_cusp cap r z n j h k =
      let begins : Paired Search start r = record { cusp_last = λ k. absurd (omega arith); after_cusps = λ j h k. absurd (omega arith) } in
      (iterate_keeps (step_of e) Held held_step n (start, r) (record { sized = z; good = good_start e.nang cap; paired = begins })).paired.after_cusps j h k

-- ---- of an accepted answer

nonzero_none : (ks : List ℕ) → ((i : ℕ) → i < length ks → get_or ks i 0 ≡ 0) → nonzero ks ≡ 0
nonzero_none [] h = refl
nonzero_none (zero ∷ ks) h = nonzero_none ks (λ i l. h (suc i) (omega arith))
nonzero_none (suc k ∷ ks) h = absurd (omega (arith, h 0 (omega arith)))

-- the first n and no more
pub nonzero_first : (ks : List ℕ) (n : ℕ) → n ≤ length ks → ((i : ℕ) → i < n → 1 ≤ get_or ks i 0) → ((i : ℕ) → n ≤ i → i < length ks → get_or ks i 0 ≡ 0)
    → nonzero ks ≡ n
nonzero_first ks zero c a b = nonzero_none ks (λ i l. b i (omega arith) l)
nonzero_first [] (suc n) c a b = absurd (omega arith)
nonzero_first (zero ∷ ks) (suc n) c a b = absurd (omega (arith, a 0 (omega arith)))
nonzero_first (suc k ∷ ks) (suc n) c a b = ap suc (nonzero_first ks n (omega arith) (λ i l. a (suc i) (omega arith)) (λ i h l. b (suc i) (omega arith) (omega arith)))

kind_named : (fill : F.Fill) → (1 ≤ kind_of fill) × (kind_of fill ≤ 4)
kind_named Exact = omega arith
kind_named Interp = omega arith
kind_named Cusp = omega arith
kind_named NextCusp360 = omega arith

module _ (r : Reflectrix) (j : Job) (ok : laws.Accepted r j) where
  abbrev rfx : Reflectrix
  rfx = (findf_of r j).rfx

  -- whatever kinds the reflectrix held
  pub kind_whatever : (ks : List ℕ) → findf_of (with_kind r ks) j ≡ findf_of r j
  kind_whatever ks = laws.findf_walks (with_kind r ks) j ok ∙ sym (laws.findf_walks r j ok)

  -- the state at the end is that of the walk's steps, and has the answer
  ended : walk_of (demand.read j) (demand.first r j) ≡ demand.state_at r j walk_steps
  ended = walk_iterate (demand.read j) (laws.nang_cap r j ok) (demand.first r j) walk_steps (omega arith)

  end_rfx : (demand.state_at r j walk_steps).1 ≡ rfx
  unfolding walked_of
  end_rfx = sym (ap (λ (w : Walked). w.rfx) (laws.findf_walks r j ok) ∙ ap (λ (s : State). s.1) ended)

  end_rows : (demand.state_at r j walk_steps).0.rows ≡ rfx.rows_this_call
  end_rows =
      sym (subst (λ (s : State). s.1.rows_this_call ≡ s.0.rows) ended (laws.rows_counted r j ok)) ∙ ap (λ (t : Reflectrix). t.rows_this_call) end_rfx

  -- the fill that wrote row i
  pub filled_by_lem : (i : ℕ) → i < rfx.rows_this_call → FilledBy (demand.read j) (start, demand.first r j) i
  filled_by_lem i h = rows_have_fills (demand.read j) walk_steps (start, demand.first r j) i (omega arith) (omega (arith, end_rows))

  module _ (z : Sized r) where
    -- a row has the kind of the fill that wrote it
    pub kind_is : (i : ℕ) (h : i < rfx.rows_this_call) → get_or rfx.kind i 0 ≡ kind_of (filled_by_lem i h).fill
    kind_is i h =
        let f = filled_by_lem i h in
        let s = demand.state_at r j f.after in
        ap (λ (n : ℕ). get_or rfx.kind n 0) (sym f.row_is) ∙ (laws.row_written r j ok z f.after f.fill f.label_is).is_kind
        ∙ row_kind (demand.read j) s.0 s.1 f.fill

    -- by the step that wrote it
    pub kind_follows : (i : ℕ) (h : i < rfx.rows_this_call)
        → let s = demand.state_at r j (filled_by_lem i h).after in (rows_due s ≡ 1) × (get_or rfx.kind i 0 ≡ kind_due s)
    kind_follows i h =
        let f = filled_by_lem i h in
        (ap due f.label_is, kind_is i h ∙ sym (ap kind_at f.label_is))

    pub kind_range : (i : ℕ) → i < rfx.rows_this_call → (1 ≤ get_or rfx.kind i 0) × (get_or rfx.kind i 0 ≤ 4)
    kind_range i h = rw (kind_is i h) (kind_named (filled_by_lem i h).fill)

    -- rows is the number of kinds that are not 0
    pub kind_count : nonzero rfx.kind ≡ rfx.rows_this_call
    kind_count =
        let len = (laws.answer_sized r j ok z).len_kind in
        nonzero_first rfx.kind rfx.rows_this_call (omega (arith, len, laws.rows_few r j ok, laws.nang_cap r j ok)) (λ i h. (kind_range i h).0)
        (λ i h l. laws.kind_beyond r j ok i h (omega (arith, len)))

    pub answer_after_cusp : (i : ℕ) → i < rfx.rows_this_call → get_or rfx.kind i 0 ≡ 4 → AfterCusp i rfx
    answer_after_cusp i h =
        subst (λ (t : Reflectrix). get_or t.kind i 0 ≡ 4 → AfterCusp i t) end_rfx
        (kind_after_cusp (demand.read j) (laws.nang_cap r j ok) (demand.first r j) (begun_sized r (angles_of j) z) walk_steps i (omega (arith, end_rows)))
