-- Every number that a walk leaves in its columns is one of f32, and every layer and kind is small: so they come back from their words. Assumes nothing.
use Rattle.std.proofs.Common.{◌≡◌, ℕ, zero, suc, ◌+◌, ◌-◌, ◌≤◌, Bool, true, false, cond, T, leb, List, [], ◌∷◌, map, get_or, set, replicate, sym, refl, subst, arith}
use lib.Ieee.{Float, nan, inf, fin, binary32, fits, neg, lt, le}
use lib.Ieee.Bits.{of_bits-fits}
use lib.Ieee.Fits.{nan-fits, inf-fits, neg-fits, add-fits, mul-fits}
use Rattle.arith.specs.Floats.{f32, ◌⊕◌, ◌⊖◌, ◌⊗◌, ◌⊘◌, RZ, R2D, abs_of}
use Rattle.arith.specs.Numbers.{0·0, 0·0001, 0·9999, 0·999999, 1·0, 89·9, 90·0}
use Rattle.arith.proofs.RunLaws.{iterate_keeps}
use Rattle.root.specs.Root.{sqrt_of}
use Rattle.angles.specs.Arccosine.{acos_of}
use Rattle.penang.specs.Penang.{frat_of, angle_of, cusp_of, xm_of, cdel_of, penetration, top_of, f2_of, f1_of, penang_of}
use Rattle.findf.specs.Walk.{ANG, ang_of, start, search_by, search_of, next_layer_by, next_layer_of, next_cusp_by, next_cusp_of, filled_by, filled_of}
use Rattle.findf.specs.Rows.{raw_of, next_mode_of, high_of, corrected_of, row_of}
use Rattle.findf.specs.Findf.{State, fill_of, step_by, step_of, begun, walked_of, angles_of, findf_of, walk_steps}
use Rattle.findf.specs.Inputs.{Job, second_of, Inputs}
use Rattle.findf.proofs.StepLaws.{walk_iterate}
use Rattle.findf.specs.Demand as demand
use Rattle.findf.specs.Demand.{row_at}
use Rattle.findf.proofs.FindfLaws as laws
use Rattle.penang.specs.declared.Penetration.{Penetration}
use Rattle.findf.specs.declared.look.Looked.{Looked}
use Rattle.findf.specs.declared.walk.Walk.{Walk}
use Rattle.findf.specs.declared.walk.Label.{Label}
use Rattle.findf.specs.declared.walk.Label.TheVariants.{Search, NextLayer, Fill, NextCusp, Done}
use Rattle.findf.specs.declared.walk.Fill as F
use Rattle.findf.specs.declared.walk.Fill.TheVariants.{Exact, Interp, Cusp, NextCusp360}
use Rattle.findf.specs.declared.correction.Row.{Row}
use Rattle.findf.specs.declared.Reflectrix.{Reflectrix}

-- a number of f32, an infinity or NaN
pub record Single (x : Float) : Type 0 where
  pub holds : T (fits binary32 x)

pub single_bits : (n : ℕ) → Single (f32 n)
single_bits n = record { holds = of_bits-fits binary32 n }

pub single_nan : Single nan
single_nan = record { holds = nan-fits binary32 }

pub single_add : (x y : Float) → Single (x ⊕ y)
single_add x y = record { holds = add-fits binary32 x y }

pub single_mul : (x y : Float) → Single (x ⊗ y)
single_mul x y = record { holds = mul-fits binary32 x y }

pub single_neg : (x : Float) → Single x → Single (neg x)
single_neg x h = record { holds = neg-fits binary32 x h.holds }

pub single_abs : (x : Float) → Single x → Single (abs_of x)
unfolding abs_of neg
single_abs nan h = h
single_abs (inf s) h = record { holds = inf-fits binary32 false }
single_abs (fin false m e) h = h
single_abs (fin true m e) h = record { holds = neg-fits binary32 (fin true m e) h.holds }

-- what holds of each element, and of the element that is set
pub set_all : {A : Type 0} (P : A → Type 0) (l : List A) (i : ℕ) (v d : A) → P v → ((j : ℕ) → P (get_or l j d)) → (j : ℕ) → P (get_or (set l i v) j d)
set_all P [] i v d p h j = h j
set_all P (x ∷ l) zero v d p h zero = p
set_all P (x ∷ l) zero v d p h (suc j) = h (suc j)
set_all P (x ∷ l) (suc i) v d p h zero = h zero
set_all P (x ∷ l) (suc i) v d p h (suc j) = set_all P l i v d p (λ k. h (suc k)) j

pub same_all : {A : Type 0} (P : A → Type 0) (n : ℕ) (v d : A) → P v → P d → (j : ℕ) → P (get_or (replicate n v) j d)
same_all P zero v d p q zero = q
same_all P zero v d p q (suc j) = q
same_all P (suc n) v d p q zero = p
same_all P (suc n) v d p q (suc j) = same_all P n v d p q j

-- a list of numbers of f32
pub record Singles (l : List Float) : Type 0 where
  pub each : (j : ℕ) → Single (get_or l j nan)

pub singles_set : (l : List Float) (i : ℕ) (v : Float) → Single v → Singles l → Singles (set l i v)
singles_set l i v p h = record { each = set_all Single l i v nan p h.each }

pub singles_same : (n : ℕ) (v : Float) → Single v → Singles (replicate n v)
singles_same n v p = record { each = same_all Single n v nan p single_nan }

pub singles_bits : (ns : List ℕ) → Singles (map f32 ns)
singles_bits ns = record { each = each_bits ns }
  where
    each_bits : (ns : List ℕ) (j : ℕ) → Single (get_or (map f32 ns) j nan)
    each_bits [] zero = single_nan
    each_bits [] (suc j) = single_nan
    each_bits (n ∷ ns) zero = single_bits n
    each_bits (n ∷ ns) (suc j) = each_bits ns j

-- ---- ANG and the penetration angles
ang_single : (i : ℕ) → Single (ang_of i)
unfolding ang_of ANG
ang_single i =
    (singles_bits (
    0x0000_0000 ∷ 0x3f00_0000 ∷ 0x3f80_0000 ∷ 0x4000_0000 ∷ 0x4040_0000 ∷ 0x4080_0000 ∷ 0x40a0_0000 ∷ 0x40c0_0000
    ∷ 0x4100_0000 ∷ 0x4120_0000 ∷ 0x4140_0000 ∷ 0x4160_0000 ∷ 0x4180_0000 ∷ 0x4190_0000 ∷ 0x41a0_0000 ∷ 0x41b0_0000
    ∷ 0x41c0_0000 ∷ 0x41d0_0000 ∷ 0x41e0_0000 ∷ 0x41f0_0000 ∷ 0x4200_0000 ∷ 0x4208_0000 ∷ 0x4210_0000 ∷ 0x4218_0000
    ∷ 0x4220_0000 ∷ 0x4228_0000 ∷ 0x4230_0000 ∷ 0x4238_0000 ∷ 0x4240_0000 ∷ 0x4248_0000 ∷ 0x4250_0000 ∷ 0x4258_0000
    ∷ 0x4260_0000 ∷ 0x4270_0000 ∷ 0x4282_0000 ∷ 0x428c_0000 ∷ 0x4296_0000 ∷ 0x42a0_0000 ∷ 0x42aa_0000 ∷ 0x42b3_fae1 ∷ []
    )).each i

either : {A : Type 0} (P : A → Type 0) (b : Bool) (x y : A) → P x → P y → P (cond b x y)
either P true x y p q = p
either P false x y p q = q

record Angled (p : Penetration) : Type 0 where
  angles : Singles p.delpen

three : (e f1 f2 : Float) (dead : Bool) → Single e → Single f1 → Single f2 → Angled (penetration e f1 f2 dead)
three e f1 f2 dead a b c = record { angles = record { each = each_of } }
  where
    each_of : (j : ℕ) → Single (get_or (e ∷ f1 ∷ f2 ∷ []) j nan)
    each_of zero = a
    each_of (suc zero) = b
    each_of (suc (suc zero)) = c
    each_of (suc (suc (suc zero))) = single_nan
    each_of (suc (suc (suc (suc j)))) = single_nan

angle_single : (c : Float) → Single (angle_of c)
unfolding angle_of
angle_single c = either Single (le c 0·999999) (acos_of c ⊗ R2D) 0·0 (single_mul (acos_of c) R2D) (single_bits 0)

cusp_single : (ht frat : Float) → Single (cusp_of ht frat)
unfolding cusp_of
cusp_single ht frat = angle_single (((RZ ⊕ ht) ⊗ sqrt_of (1·0 ⊖ frat)) ⊘ RZ)

module _ (e f1 : Float) (a : Single e) (b : Single f1) where
  top_angled : (c : Float) → Angled (top_of e f1 c)
  unfolding top_of
  top_angled c = either Angled (le c 0·999999) _ _ (three e f1 (acos_of c ⊗ R2D) false a b (single_mul _ _)) (three e f1 0·0 true a b (single_bits _))

  f2_angled : (fvert htrue : List Float) (freq : Float) → Angled (f2_of fvert htrue freq e f1)
  unfolding f2_of
  f2_angled fvert htrue freq =
      let c = cdel_of (xm_of (get_or fvert 27 nan) (get_or htrue 27 nan) freq) (xm_of (get_or fvert 28 nan) (get_or htrue 28 nan) freq) (xm_of (get_or fvert 29 nan) (get_or htrue 29 nan) freq) in
      either Angled (le 0·0 ((get_or fvert 29 nan ⊖ freq) ⊕ 0·0001)) (penetration e f1 89·9 false) (top_of e f1 c) (three e f1 89·9 false a b (single_bits 0x42b3_cccd)) (top_angled c)

f1_angled : (fvert htrue : List Float) (second freq e : Float) → Single e → Angled (f1_of fvert htrue second freq e)
unfolding f1_of
f1_angled fvert htrue second freq e a =
    let f = frat_of (get_or fvert 19 nan) freq in
    let c = cusp_of (get_or htrue 19 nan) f in
    either Angled (lt 0·0 second) (cond (le 0·9999 f) (penetration e 89·9 90·0 false) (f2_of fvert htrue freq e c)) (f2_of fvert htrue freq e e)
    (either Angled (le 0·9999 f) (penetration e 89·9 90·0 false) (f2_of fvert htrue freq e c) (three e 89·9 90·0 false a (single_bits 0x42b3_cccd) (single_bits 0x42b4_0000))
    (f2_angled e c a (cusp_single (get_or htrue 19 nan) f) fvert htrue freq))
    (f2_angled e e a a fvert htrue freq)

penang_angled : (fvert htrue : List Float) (second freq : Float) → Angled (penang_of fvert htrue second freq)
unfolding penang_of
penang_angled fvert htrue second freq =
    let f = frat_of (get_or fvert 9 nan) freq in
    let c = cusp_of (get_or htrue 9 nan) f in
    either Angled (le 0·9999 f) (penetration 89·9 90·0 90·0 false) (f1_of fvert htrue second freq c)
    (three 89·9 90·0 90·0 false (single_bits 0x42b3_cccd) (single_bits 0x42b4_0000) (single_bits 0x42b4_0000))
    (f1_angled fvert htrue second freq c (cusp_single (get_or htrue 9 nan) f))

-- ---- the columns
pub record Fitting (r : Reflectrix) : Type 0 where
  pub dels : Singles r.delfx
  pub hps : Singles r.hpflx
  pub hts : Singles r.htflx
  pub fvs : Singles r.fvflx
  pub afs : Singles r.afflx
  pub modes : (j : ℕ) → get_or r.imode j 0 ≤ 4
  pub kinds : (j : ℕ) → get_or r.kind j 0 ≤ 4

record Read (e : Inputs) : Type 0 where
  fvert_read : Singles e.tables.fvert
  htrue_read : Singles e.tables.htrue
  afac_read : Singles e.tables.afac
  delpen_read : Singles e.delpen

record Whole (t : Row) : Type 0 where
  whole_del : Single t.del
  whole_hp : Single t.hp
  whole_ht : Single t.ht
  whole_fv : Single t.fv
  whole_af : Single t.af
  whole_mode : t.mode ≤ 4
  whole_kind : t.kind ≤ 4

next_mode : (il : ℕ) (second : Float) → il ≤ 3 → next_mode_of il second ≤ 4
unfolding next_mode_of
next_mode il second h = either (λ (n : ℕ). n ≤ 4) (le second 0·0) 3 (il + 1) (omega arith) (omega arith)

module _ (e : Inputs) (ok : Read e) (w : Walk) (r : Reflectrix) (l : w.il ≤ 3) (was : Fitting r) where
  row_whole : (fill : F.Fill) → Whole (row_at e fill w r)
  unfolding row_of raw_of corrected_of high_of
  row_whole Exact = record {
    whole_del = ang_single _;
    whole_hp = single_add _ _;
    whole_ht = ok.htrue_read.each _;
    whole_fv = ok.fvert_read.each _;
    whole_af = ok.afac_read.each _;
    whole_mode = omega arith;
    whole_kind = omega arith;
  }
  row_whole Interp = record {
    whole_del = ang_single _;
    whole_hp = single_add _ _;
    whole_ht = single_add _ _;
    whole_fv = single_add _ _;
    whole_af = single_add _ _;
    whole_mode = omega arith;
    whole_kind = omega arith;
  }
  row_whole Cusp = record {
    whole_del = ok.delpen_read.each _;
    whole_hp = single_add _ _;
    whole_ht = ok.htrue_read.each _;
    whole_fv = ok.fvert_read.each _;
    whole_af = ok.afac_read.each _;
    whole_mode = omega arith;
    whole_kind = omega arith;
  }
  row_whole NextCusp360 = record {
    whole_del = single_add _ _;
    whole_hp = single_add _ _;
    whole_ht = ok.htrue_read.each _;
    whole_fv = ok.fvert_read.each _;
    whole_af = ok.afac_read.each _;
    whole_mode = next_mode w.il e.second l;
    whole_kind = omega arith;
  }

  fill_fits : (fill : F.Fill) → Fitting (fill_of e fill w r)
  unfolding fill_of
  fill_fits fill =
      let t = row_whole fill in
      record {
        dels = singles_set r.delfx w.rows _ t.whole_del was.dels;
        hps = singles_set r.hpflx w.rows _ t.whole_hp was.hps;
        hts = singles_set r.htflx w.rows _ t.whole_ht was.hts;
        fvs = singles_set r.fvflx w.rows _ t.whole_fv was.fvs;
        afs = singles_set r.afflx w.rows _ t.whole_af was.afs;
        modes = set_all (λ (n : ℕ). n ≤ 4) r.imode w.rows _ 0 t.whole_mode was.modes;
        kinds = set_all (λ (n : ℕ). n ≤ 4) r.kind w.rows _ 0 t.whole_kind was.kinds;
      }

-- ---- the layer
search_il : (a b c d : Bool) (w : Walk) (l : Looked) → (search_by a b c d w l).il ≡ w.il
unfolding search_by
search_il true b c d w l = refl
search_il false true c d w l = refl
search_il false false true d w l = refl
search_il false false false true w l = refl
search_il false false false false w l = refl

layer_il : (a b c : Bool) (w : Walk) → w.il ≤ 3 → (next_layer_by a b c w).il ≤ 3
unfolding next_layer_by
layer_il true true c w h = omega arith
layer_il true false c w h = omega arith
layer_il false b true w h = omega arith
layer_il false b false w h = h

cusp_il : (a b : Bool) (w : Walk) → (next_cusp_by a b w).il ≡ w.il
unfolding next_cusp_by
cusp_il true b w = refl
cusp_il false true w = refl
cusp_il false false w = refl

filled_il : (b : Bool) (fill : F.Fill) (w : Walk) → (filled_by b fill w).il ≡ w.il
unfolding filled_by
filled_il true fill w = refl
filled_il false fill w = refl

record Kept (s : State) : Type 0 where
  low : s.0.il ≤ 3
  fit : Fitting s.1

module _ (e : Inputs) (ok : Read e) where
  kept_by : (l : Label) (w : Walk) (r : Reflectrix) → Kept (w, r) → Kept (step_by e l w r)
  unfolding step_by search_of next_layer_of next_cusp_of filled_of
  kept_by Search w r k = record { low = rw (search_il (le (get_or e.delpen (w.il - 1) nan) 0·0) _ _ _ w _) k.low; fit = k.fit }
  kept_by NextLayer w r k = record { low = layer_il _ _ _ w k.low; fit = k.fit }
  kept_by (Fill fill) w r k = record { low = rw (filled_il (leb 45 (w.rows + 1)) fill w) k.low; fit = fill_fits e ok w r k.low k.fit fill }
  kept_by NextCusp w r k = record { low = rw (cusp_il (leb 3 w.il) _ w) k.low; fit = k.fit }
  kept_by Done w r k = k

  kept_step : (s : State) → Kept s → Kept (step_of e s)
  unfolding step_of
  kept_step s k = kept_by s.0.label s.0 s.1 k

begun_fits : (r : Reflectrix) (p : Penetration) → Fitting r → Fitting (begun r p)
begun_fits r p was =
    let zeros = singles_same 45 0·0 (single_bits 0) in
    record { dels = zeros; hps = zeros; hts = was.hts; fvs = was.fvs; afs = was.afs; modes = was.modes; kinds = same_all (λ (n : ℕ). n ≤ 4) 45 0 0 (omega arith) (omega arith) }

module _ (r : Reflectrix) (j : Job) where
  -- an accepted walk on such columns and tables leaves such columns
  pub walked_fits : laws.Accepted r j → Singles j.tables.fvert → Singles j.tables.htrue → Singles j.tables.afac → Fitting r
      → Fitting (findf_of r j).rfx
  unfolding walked_of
  walked_fits ok a b c was =
      let e = demand.read j in
      let first = demand.first r j in
      let few = laws.nang_cap r j ok in
      let read : Read e = record { fvert_read = a; htrue_read = b; afac_read = c; delpen_read = (penang_angled j.tables.fvert j.tables.htrue (second_of j) j.freq).angles } in
      let all = iterate_keeps (step_of e) Kept (kept_step e read) walk_steps (start, first) (record { low = omega arith; fit = begun_fits r (angles_of j) was }) in
      rw (laws.findf_walks r j ok) (subst (λ (s : State). Fitting s.1) (sym (walk_iterate e few first walk_steps (omega arith))) all.fit)
