-- Laws of what the walk writes, for every state and any tables. Assumes nothing.
-- `fill_writes`, `fill_spares`: a fill writes row `rows` and no other. `others_keep`: any other step writes nothing. `step_sized`, `sized_throughout`:
-- columns of 45 rows stay so; `begun_sized`: findf starts with them. `written_stays`: a row once written stays; `filled_stays`: and so does a fill's row.
-- `unwritten_keeps`: a row that is not written keeps its old contents. `beyond_zero`: from the start on, heights, angles and
-- lengths beyond the rows written are +0, kinds 0, and `rows_this_call` is the number of rows. `dmaxkm_never_falls`: no step lowers dmaxkm, and
-- it never is NaN. `rows_have_fills`: each row that is written has the fill that wrote it. `delpen_stays`: no step writes the penetration angles.
use Rattle.std.proofs.Common.{◌≡◌, ℕ, zero, suc, ◌+◌, ◌<◌, ◌≤◌, Bool, true, false, cond, leb, ◌≢◌, length, get_or, sym, refl, ap, ◌∙◌, subst, arith, length-set, get_or-set_other, get_or-set_same, leb-false, leb-true}
use lib.ListN.{length-replicate, get_or-replicate}
use lib.Ieee.{Float, nan, of_bits, neg, lt, le, eq}
use Rattle.arith.specs.Numbers.{0·0}
use Rattle.arith.proofs.Order.{le_number, le_trans}
use Rattle.arith.specs.Run.{iterate}
use Rattle.arith.proofs.RunLaws.{iterate_keeps}
use Rattle.findf.specs.Walk.{start}
use Rattle.findf.specs.Demand.{due, row_at, RowIs}
use Rattle.findf.specs.Rows.{far_of}
use Rattle.findf.specs.Findf.{State, fill_of, step_by, step_of, unless_of, begun}
use Rattle.findf.specs.Inputs.{Inputs}
use Rattle.findf.proofs.StepLaws.{step_rows}
use Rattle.penang.specs.declared.Penetration.{Penetration}
use Rattle.findf.specs.declared.walk.Walk.{Walk}
use Rattle.findf.specs.declared.walk.Label.{Label}
use Rattle.findf.specs.declared.walk.Label.TheVariants.{Search, NextLayer, Fill, NextCusp, Done}
use Rattle.findf.specs.declared.walk.Fill as F
use Rattle.findf.specs.declared.correction.Row.{Row}
use Rattle.findf.specs.declared.Reflectrix.{Reflectrix}

-- row j of r' is row j of r
pub record SameRow (j : ℕ) (r r' : Reflectrix) : Type 0 where
  pub same_del : get_or r'.delfx j nan ≡ get_or r.delfx j nan
  pub same_hp : get_or r'.hpflx j nan ≡ get_or r.hpflx j nan
  pub same_ht : get_or r'.htflx j nan ≡ get_or r.htflx j nan
  pub same_gdr : get_or r'.gdflx j nan ≡ get_or r.gdflx j nan
  pub same_fv : get_or r'.fvflx j nan ≡ get_or r.fvflx j nan
  pub same_af : get_or r'.afflx j nan ≡ get_or r.afflx j nan
  pub same_mode : get_or r'.imode j 0 ≡ get_or r.imode j 0
  pub same_kind : get_or r'.kind j 0 ≡ get_or r.kind j 0

-- columns of 45 rows
pub record Sized (r : Reflectrix) : Type 0 where
  pub len_del : length r.delfx ≡ 45
  pub len_hp : length r.hpflx ≡ 45
  pub len_ht : length r.htflx ≡ 45
  pub len_gdr : length r.gdflx ≡ 45
  pub len_fv : length r.fvflx ≡ 45
  pub len_af : length r.afflx ≡ 45
  pub len_mode : length r.imode ≡ 45
  pub len_kind : length r.kind ≡ 45

module _ (e : Inputs) (fill : F.Fill) (w : Walk) (r : Reflectrix) where
  -- a fill writes row `rows`, counted from 0,
  pub fill_writes : Sized r → w.rows < 45 → RowIs w.rows (row_at e fill w r) (fill_of e fill w r)
  unfolding fill_of
  fill_writes z h =
      record {
        is_del = get_or-set_same r.delfx w.rows _ nan (omega arith);
        is_hp = get_or-set_same r.hpflx w.rows _ nan (omega arith);
        is_ht = get_or-set_same r.htflx w.rows _ nan (omega arith);
        is_gdr = get_or-set_same r.gdflx w.rows _ nan (omega arith);
        is_fv = get_or-set_same r.fvflx w.rows _ nan (omega arith);
        is_af = get_or-set_same r.afflx w.rows _ nan (omega arith);
        is_mode = get_or-set_same r.imode w.rows _ 0 (omega arith);
        is_kind = get_or-set_same r.kind w.rows _ 0 (omega arith);
      }

  -- and no other
  pub fill_spares : (j : ℕ) → j ≢ w.rows → SameRow j r (fill_of e fill w r)
  unfolding fill_of
  fill_spares j h =
      record {
        same_del = get_or-set_other r.delfx w.rows j _ nan h;
        same_hp = get_or-set_other r.hpflx w.rows j _ nan h;
        same_ht = get_or-set_other r.htflx w.rows j _ nan h;
        same_gdr = get_or-set_other r.gdflx w.rows j _ nan h;
        same_fv = get_or-set_other r.fvflx w.rows j _ nan h;
        same_af = get_or-set_other r.afflx w.rows j _ nan h;
        same_mode = get_or-set_other r.imode w.rows j _ 0 h;
        same_kind = get_or-set_other r.kind w.rows j _ 0 h;
      }

  pub fill_sized : Sized r → Sized (fill_of e fill w r)
  unfolding fill_of
  fill_sized z =
      record {
        len_del = simp length-set z.len_del;
        len_hp = simp length-set z.len_hp;
        len_ht = simp length-set z.len_ht;
        len_gdr = simp length-set z.len_gdr;
        len_fv = simp length-set z.len_fv;
        len_af = simp length-set z.len_af;
        len_mode = simp length-set z.len_mode;
        len_kind = simp length-set z.len_kind;
      }

-- a step that is no fill writes nothing
pub others_keep : (e : Inputs) (l : Label) (w : Walk) (r : Reflectrix) → due l ≡ 0 → (step_by e l w r).1 ≡ r
unfolding step_by
others_keep e Search w r d = refl
others_keep e NextLayer w r d = refl
others_keep e (Fill fill) w r d = absurd (omega arith)
others_keep e NextCusp w r d = refl
others_keep e Done w r d = refl

-- a step keeps columns of 45 rows
sized_by : (e : Inputs) (l : Label) (w : Walk) (r : Reflectrix) → Sized r → Sized (step_by e l w r).1
unfolding step_by
sized_by e Search w r z = z
sized_by e NextLayer w r z = z
sized_by e (Fill fill) w r z = fill_sized e fill w r z
sized_by e NextCusp w r z = z
sized_by e Done w r z = z

module _ (e : Inputs) where
  pub step_sized : (s : State) → Sized s.1 → Sized (step_of e s).1
  unfolding step_of
  step_sized s z = sized_by e s.0.label s.0 s.1 z

  -- after every step from a start
  pub sized_throughout : (r : Reflectrix) → Sized r → (n : ℕ) → Sized (iterate n (step_of e) (start, r)).1
  sized_throughout r z n = iterate_keeps (step_of e) (λ (s : State). Sized s.1) step_sized n (start, r) z

-- findf starts with them if it is given them
pub begun_sized : (r : Reflectrix) (p : Penetration) → Sized r → Sized (begun r p)
begun_sized r p z =
    record {
      len_del = length-replicate 45 0·0;
      len_hp = length-replicate 45 0·0;
      len_ht = z.len_ht;
      len_gdr = length-replicate 45 0·0;
      len_fv = z.len_fv;
      len_af = z.len_af;
      len_mode = z.len_mode;
      len_kind = length-replicate {A = ℕ} 45 0;
    }

same_row : (j : ℕ) (r : Reflectrix) → SameRow j r r
same_row j r = record { same_del = refl; same_hp = refl; same_ht = refl; same_gdr = refl; same_fv = refl; same_af = refl; same_mode = refl; same_kind = refl }

same_trans : {j : ℕ} {r s t : Reflectrix} → SameRow j r s → SameRow j s t → SameRow j r t
same_trans a b =
    record {
      same_del = b.same_del ∙ a.same_del;
      same_hp = b.same_hp ∙ a.same_hp;
      same_ht = b.same_ht ∙ a.same_ht;
      same_gdr = b.same_gdr ∙ a.same_gdr;
      same_fv = b.same_fv ∙ a.same_fv;
      same_af = b.same_af ∙ a.same_af;
      same_mode = b.same_mode ∙ a.same_mode;
      same_kind = b.same_kind ∙ a.same_kind;
    }

row_same : {i : ℕ} {t : Row} {r s : Reflectrix} → RowIs i t r → SameRow i r s → RowIs i t s
row_same a b =
    record {
      is_del = b.same_del ∙ a.is_del;
      is_hp = b.same_hp ∙ a.is_hp;
      is_ht = b.same_ht ∙ a.is_ht;
      is_gdr = b.same_gdr ∙ a.is_gdr;
      is_fv = b.same_fv ∙ a.is_fv;
      is_af = b.same_af ∙ a.is_af;
      is_mode = b.same_mode ∙ a.is_mode;
      is_kind = b.same_kind ∙ a.is_kind;
    }

-- a step changes no row but row `rows`, counted from 0
spares_by : (e : Inputs) (l : Label) (w : Walk) (r : Reflectrix) (j : ℕ) → j ≢ w.rows → SameRow j r (step_by e l w r).1
unfolding step_by
spares_by e Search w r j h = same_row j r
spares_by e NextLayer w r j h = same_row j r
spares_by e (Fill fill) w r j h = fill_spares e fill w r j h
spares_by e NextCusp w r j h = same_row j r
spares_by e Done w r j h = same_row j r

apart_above : (i j : ℕ) → i + 1 ≤ j → j ≢ i
apart_above i j h e = omega arith

apart_below : (i j : ℕ) → j < i → j ≢ i
apart_below i j h e = omega arith

module _ (e : Inputs) where
  abbrev next : State → State
  next = step_of e

  rows_rise : (s : State) → s.0.rows ≤ (next s).0.rows
  unfolding step_of
  rows_rise s = omega (arith, step_rows e s.0.label s.0 s.1)

  spares : (s : State) (j : ℕ) → j ≢ s.0.rows → SameRow j s.1 (next s).1
  unfolding step_of
  spares s j h = spares_by e s.0.label s.0 s.1 j h

  -- a row that is written stays as it is: the rows come in order
  pub written_stays : (s : State) (j : ℕ) → j < s.0.rows → (n : ℕ) → SameRow j s.1 (iterate n next s).1
  written_stays s j h n =
      (iterate_keeps next (λ (t : State). (j < t.0.rows) × SameRow j s.1 t.1)
      (λ t k. (omega (arith, rows_rise t, k.0), same_trans k.1 (spares t j (apart_below t.0.rows j k.0)))) n s (h, same_row j s.1)).1

  -- and so does the row that a fill writes, from the next state on
  fill_next : (s : State) (fill : F.Fill) → s.0.label ≡ Fill fill → (next s).1 ≡ fill_of e fill s.0 s.1
  unfolding step_of step_by
  fill_next s fill l = ap (λ (k : Label). (step_by e k s.0 s.1).1) l

  fill_counts : (s : State) (fill : F.Fill) → s.0.label ≡ Fill fill → (next s).0.rows ≡ s.0.rows + 1
  unfolding step_of
  fill_counts s fill l = omega (arith, step_rows e s.0.label s.0 s.1, ap due l)

  pub filled_stays : (s : State) (fill : F.Fill) → s.0.label ≡ Fill fill → Sized s.1 → s.0.rows < 45 → (n : ℕ)
      → RowIs s.0.rows (row_at e fill s.0 s.1) (iterate (suc n) next s).1
  unfolding iterate
  filled_stays s fill l z h n =
      let i = s.0.rows in
      row_same (subst (RowIs i (row_at e fill s.0 s.1)) (sym (fill_next s fill l)) (fill_writes e fill s.0 s.1 z h))
      (written_stays (next s) i (omega (arith, fill_counts s fill l)) n)

  -- a row that is not written yet keeps what it had
  unwritten_by : (l : Label) (w : Walk) (r : Reflectrix) (j : ℕ) → (step_by e l w r).0.rows ≤ j → SameRow j r (step_by e l w r).1
  unwritten_by (Fill fill) w r j h = spares_by e (Fill fill) w r j (apart_above w.rows j (omega (arith, step_rows e (Fill fill) w r)))
  unwritten_by Search w r j h = subst (SameRow j r) (sym (others_keep e Search w r refl)) (same_row j r)
  unwritten_by NextLayer w r j h = subst (SameRow j r) (sym (others_keep e NextLayer w r refl)) (same_row j r)
  unwritten_by NextCusp w r j h = subst (SameRow j r) (sym (others_keep e NextCusp w r refl)) (same_row j r)
  unwritten_by Done w r j h = subst (SameRow j r) (sym (others_keep e Done w r refl)) (same_row j r)

  unwritten_step : (r : Reflectrix) (j : ℕ) (s : State) → (s.0.rows ≤ j → SameRow j r s.1) → (next s).0.rows ≤ j → SameRow j r (next s).1
  unfolding step_of
  unwritten_step r j s k h = same_trans (k (omega (arith, rows_rise s))) (unwritten_by s.0.label s.0 s.1 j h)

  pub unwritten_keeps : (s : State) (j n : ℕ) → (iterate n next s).0.rows ≤ j → SameRow j s.1 (iterate n next s).1
  unwritten_keeps s j n =
      iterate_keeps next (λ (t : State). t.0.rows ≤ j → SameRow j s.1 t.1) (unwritten_step s.1 j) n s (λ h. same_row j s.1)

-- ---- beyond the rows written
pub record Beyond (s : State) : Type 0 where
  pub zero_del : (j : ℕ) → s.0.rows ≤ j → j < 45 → get_or s.1.delfx j nan ≡ 0·0
  pub zero_hp : (j : ℕ) → s.0.rows ≤ j → j < 45 → get_or s.1.hpflx j nan ≡ 0·0
  pub zero_gdr : (j : ℕ) → s.0.rows ≤ j → j < 45 → get_or s.1.gdflx j nan ≡ 0·0
  pub zero_kind : (j : ℕ) → s.0.rows ≤ j → j < 45 → get_or s.1.kind j 0 ≡ 0
  pub counted : s.1.rows_this_call ≡ s.0.rows

fill_counted : (e : Inputs) (fill : F.Fill) (w : Walk) (r : Reflectrix) → (fill_of e fill w r).rows_this_call ≡ w.rows + 1
unfolding fill_of
fill_counted e fill w r = refl

module _ (e : Inputs) where
  beyond_fill : (fill : F.Fill) (w v : Walk) (r : Reflectrix) → v.rows ≡ w.rows + 1 → Beyond (w, r) → Beyond (v, fill_of e fill w r)
  beyond_fill fill w v r q b =
      let spared : (j : ℕ) → v.rows ≤ j → SameRow j r (fill_of e fill w r) = λ j h. fill_spares e fill w r j (apart_above w.rows j (omega arith)) in
      record {
        zero_del = λ j h l. (spared j h).same_del ∙ b.zero_del j (omega arith) l;
        zero_hp = λ j h l. (spared j h).same_hp ∙ b.zero_hp j (omega arith) l;
        zero_gdr = λ j h l. (spared j h).same_gdr ∙ b.zero_gdr j (omega arith) l;
        zero_kind = λ j h l. (spared j h).same_kind ∙ b.zero_kind j (omega arith) l;
        counted = fill_counted e fill w r ∙ sym q;
      }

  beyond_other : (w v : Walk) (r : Reflectrix) → v.rows ≡ w.rows + 0 → Beyond (w, r) → Beyond (v, r)
  beyond_other w v r q b =
      record {
        zero_del = λ j h l. b.zero_del j (omega arith) l;
        zero_hp = λ j h l. b.zero_hp j (omega arith) l;
        zero_gdr = λ j h l. b.zero_gdr j (omega arith) l;
        zero_kind = λ j h l. b.zero_kind j (omega arith) l;
        counted = omega (arith, b.counted);
      }

  beyond_by : (l : Label) (w : Walk) (r : Reflectrix) → Beyond (w, r) → Beyond (step_by e l w r)
  unfolding step_by
  beyond_by Search w r b = beyond_other w _ r (step_rows e Search w r) b
  beyond_by NextLayer w r b = beyond_other w _ r (step_rows e NextLayer w r) b
  beyond_by (Fill fill) w r b = beyond_fill fill w _ r (step_rows e (Fill fill) w r) b
  beyond_by NextCusp w r b = beyond_other w _ r (step_rows e NextCusp w r) b
  beyond_by Done w r b = b

  beyond_step : (s : State) → Beyond s → Beyond (step_of e s)
  unfolding step_of
  beyond_step s b = beyond_by s.0.label s.0 s.1 b

  -- after every step from a start
  pub beyond_zero : (r : Reflectrix) → Beyond (start, r) → (n : ℕ) → Beyond (iterate n (step_of e) (start, r))
  beyond_zero r b n = iterate_keeps (step_of e) Beyond beyond_step n (start, r) b

-- the start of findf is such a start
pub begun_beyond : (r : Reflectrix) (p : Penetration) → Beyond (start, begun r p)
begun_beyond r p =
    record {
      zero_del = λ j h l. get_or-replicate 45 j 0·0 nan l;
      zero_hp = λ j h l. get_or-replicate 45 j 0·0 nan l;
      zero_gdr = λ j h l. get_or-replicate 45 j 0·0 nan l;
      zero_kind = λ j h l. get_or-replicate 45 j 0 0 l;
      counted = refl;
    }

-- ---- dmaxkm: a number at the start, so it is one throughout, and it never falls
abbrev pub IsNumber : Float → Type 0
IsNumber x = le x x ≡ true

module _ (d gdr : Float) where
  far_rises_by : (a b : Bool) → le d gdr ≡ a → IsNumber d → le d (cond a (cond b gdr d) d) ≡ true
  far_rises_by true true e z = e
  far_rises_by true false e z = z
  far_rises_by false b e z = z

  far_rises : (del amind : Float) → IsNumber d → le d (far_of d gdr del amind) ≡ true
  unfolding far_of
  far_rises del amind z = far_rises_by (le d gdr) (le amind del) refl z

module _ (e : Inputs) where
  dmaxkm_by : (l : Label) (w : Walk) (r : Reflectrix) → IsNumber r.dmaxkm → le r.dmaxkm (step_by e l w r).1.dmaxkm ≡ true
  unfolding step_by fill_of
  dmaxkm_by Search w r z = z
  dmaxkm_by NextLayer w r z = z
  dmaxkm_by (Fill fill) w r z = let t = row_at e fill w r in far_rises r.dmaxkm t.gdr t.del e.amind z
  dmaxkm_by NextCusp w r z = z
  dmaxkm_by Done w r z = z

  dmaxkm_rises : (s : State) → IsNumber s.1.dmaxkm → le s.1.dmaxkm (step_of e s).1.dmaxkm ≡ true
  unfolding step_of
  dmaxkm_rises s z = dmaxkm_by s.0.label s.0 s.1 z

  -- from any state on, and so from each state of the walk to each later one
  pub dmaxkm_never_falls : (s : State) → IsNumber s.1.dmaxkm → (n : ℕ) → le s.1.dmaxkm (iterate n (step_of e) s).1.dmaxkm ≡ true
  dmaxkm_never_falls s z n =
      let d = s.1.dmaxkm in
      iterate_keeps (step_of e) (λ (t : State). le d t.1.dmaxkm ≡ true)
      (λ t h. le_trans d t.1.dmaxkm (step_of e t).1.dmaxkm h (dmaxkm_rises t (le_number d t.1.dmaxkm h))) n s z

-- 0 or −1
begun_number_by : (dead : Bool) → IsNumber (unless_of dead 0·0)
unfolding le lt eq of_bits neg
begun_number_by true = refl
begun_number_by false = refl

pub begun_number : (r : Reflectrix) (p : Penetration) → IsNumber (begun r p).dmaxkm
begun_number r p = begun_number_by p.dead

-- the fill that writes row j, and after how many steps
pub record FilledBy (e : Inputs) (s : State) (j : ℕ) : Type 0 where
  pub after : ℕ
  pub fill : F.Fill
  pub label_is : (iterate after (step_of e) s).0.label ≡ Fill fill
  pub row_is : (iterate after (step_of e) s).0.rows ≡ j

module _ (e : Inputs) where
  later : (s : State) (j : ℕ) → FilledBy e (step_of e s) j → FilledBy e s j
  unfolding iterate
  later s j f = record { after = suc f.after; fill = f.fill; label_is = f.label_is; row_is = f.row_is }

  fills_by : (l : Label) (s : State) (j : ℕ) (b : Bool) → s.0.label ≡ l → leb (suc s.0.rows) j ≡ b → s.0.rows ≤ j → ((step_of e s).0.rows ≤ j → FilledBy e s j) → FilledBy e s j
  unfolding step_of iterate
  fills_by (Fill fill) s j true q t h k = k (omega (arith, step_rows e s.0.label s.0 s.1, ap due q, leb-true (suc s.0.rows) j t))
  fills_by (Fill fill) s j false q t h k = record { after = 0; fill = fill; label_is = q; row_is = omega (arith, leb-false (suc s.0.rows) j t) }
  fills_by Search s j b q t h k = k (omega (arith, step_rows e s.0.label s.0 s.1, ap due q))
  fills_by NextLayer s j b q t h k = k (omega (arith, step_rows e s.0.label s.0 s.1, ap due q))
  fills_by NextCusp s j b q t h k = k (omega (arith, step_rows e s.0.label s.0 s.1, ap due q))
  fills_by Done s j b q t h k = k (omega (arith, step_rows e s.0.label s.0 s.1, ap due q))

  -- each row that n steps write has its fill
  pub rows_have_fills : (n : ℕ) (s : State) (j : ℕ) → s.0.rows ≤ j → j < (iterate n (step_of e) s).0.rows → FilledBy e s j
  unfolding iterate
  rows_have_fills zero s j h k = absurd (omega arith)
  rows_have_fills (suc n) s j h k = fills_by s.0.label s j (leb (suc s.0.rows) j) refl refl h (λ m. later s j (rows_have_fills n (step_of e s) j m k))

  delpen_by : (l : Label) (w : Walk) (r : Reflectrix) → (step_by e l w r).1.delpen ≡ r.delpen
  unfolding step_by fill_of
  delpen_by Search w r = refl
  delpen_by NextLayer w r = refl
  delpen_by (Fill fill) w r = refl
  delpen_by NextCusp w r = refl
  delpen_by Done w r = refl

  -- no step writes the penetration angles
  pub delpen_stays : (n : ℕ) (s : State) → (iterate n (step_of e) s).1.delpen ≡ s.1.delpen
  unfolding step_of
  delpen_stays n s =
      iterate_keeps (step_of e) (λ (t : State). t.1.delpen ≡ s.1.delpen) (λ t q. delpen_by t.0.label t.0 t.1 ∙ q) n s refl
