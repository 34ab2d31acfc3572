-- Laws of the walk's states. `Bounds` holds of every state that comes from the start: each step keeps it and lessens `μ` (`step_fine`), and it makes the
-- state safe (`good_safe`). Assumes nothing.
use Rattle.std.proofs.Common.{◌≡◌, ℕ, zero, suc, ◌+◌, ◌-◌, ◌*◌, ◌<◌, ◌≤◌, Bool, true, false, leb, List, ℤ, sym, refl, subst, arith, eqb-true, leb-false}
use lib.Ieee.{Float}
use Rattle.findf.proofs.LookLaws.{Seen, Looks, looks_leave}
use Rattle.findf.specs.Walk.{search_by, search_of, next_layer_by, next_layer_of, next_cusp_by, next_cusp_of, back_of, filled_by, filled_of, done_at, start}
use Rattle.findf.specs.Requires.{by_label, takes, interpolates, follows, Safe}
use Rattle.findf.specs.Demand.{due}
use Rattle.findf.specs.Findf.{step_by}
use Rattle.findf.specs.Inputs.{Inputs}
use Rattle.findf.specs.declared.look.Looked.{Looked}
use Rattle.findf.specs.declared.walk.Walk.{Walk}
use Rattle.findf.specs.declared.walk.Label.{Label}
use Rattle.findf.specs.declared.walk.Label.TheVariants.{Search, NextLayer, Fill, NextCusp, Done}
use Rattle.findf.specs.declared.walk.Fill as F
use Rattle.findf.specs.declared.walk.Fill.TheVariants.{Exact, Interp, Cusp, NextCusp360}
use Rattle.findf.specs.declared.Reflectrix.{Reflectrix}

-- ---- more numbers of labels, beside those of `Safe`
-- the angle that the row will give back
abbrev pub back_at : Label → ℕ
back_at (Fill fill) = back_of fill
back_at Search = 0
back_at NextLayer = 0
back_at NextCusp = 0
back_at Done = 0

-- 1 after a cusp row: a row is written, and an angle is left
abbrev pub cusped : Label → ℕ
cusped = by_label 0 0 0 1 0 0 1 0

-- how many rows a layer may have beyond its angles, less those that are written
abbrev pub gain : Label → ℕ
gain = by_label 0 0 0 1 0 2 1 2

-- the label's part of the measure
abbrev pub rank : Label → ℕ
rank = by_label 18 18 18 6 9 5 7 0

-- 1 above the first layer
abbrev pub past : ℕ → ℕ
past zero = 0
past (suc zero) = 0
past (suc (suc n)) = 1

-- falls with each step; 430 at the start
abbrev pub μ : Label → Walk → ℕ
μ l w = 10 * (3 - w.il) + 10 * (40 - w.ia) + rank l + 1

pub record Bounds (nang : ℕ) (l : Label) (w : Walk) : Type 0 where
  pub angs : nang ≤ 40
  pub ia_cap : w.ia + cusped l ≤ nang
  pub ia_low : takes l ≤ w.ia
  pub il_low : 1 ≤ w.il
  pub il_cap : w.il + follows l ≤ 3
  pub ih_low : 1 ≤ w.ih
  pub ih_cap : w.ih + interpolates l ≤ w.ihigh
  pub high : w.ihigh ≤ 10 * w.il
  pub low_low : 1 ≤ w.ilow
  pub low_cap : w.ilow ≤ 30
  pub rows_low : cusped l ≤ w.rows
  pub rows_layer : w.rows + 2 + takes l ≤ w.ia + 2 * w.il + gain l
  pub rows_cap : w.rows + due l ≤ nang + 4
  pub looks_cap : w.looks + 1 + past w.il + back_at l ≤ w.ia + w.ih

abbrev pub Good : ℕ → Walk → Type 0
Good nang w = Bounds nang w.label w

-- ---- inside the tables
follows_cusped : (l : Label) → follows l ≤ cusped l
follows_cusped (Fill Exact) = omega arith
follows_cusped (Fill Interp) = omega arith
follows_cusped (Fill Cusp) = omega arith
follows_cusped (Fill NextCusp360) = omega arith
follows_cusped Search = omega arith
follows_cusped NextLayer = omega arith
follows_cusped NextCusp = omega arith
follows_cusped Done = omega arith

pub good_safe : {nang : ℕ} {l : Label} {w : Walk} → Bounds nang l w → Safe l w
good_safe {nang} {l} {w} g = omega (arith, follows_cusped l)

-- ---- each step keeps the bounds, and the measure falls
pub record Fine (nang : ℕ) (l : Label) (w v : Walk) : Type 0 where
  pub good : Good nang v
  pub falls : μ v.label v < μ l w

-- the numbers of a label that a look leads to
record Led (l : Label) : Type 0 where
  pub led_takes : takes l ≤ 1
  pub led_back : back_at l ≡ 0
  pub led_follows : follows l ≡ 0
  pub led_cusped : cusped l ≡ 0
  pub led_gain : gain l ≡ 0
  pub led_due : due l ≤ 1
  pub led_rank : rank l ≤ 18

led : (l : Label) → Seen l → Led l
led Search s = omega arith
led NextLayer s = absurd s
led (Fill Exact) s = omega arith
led (Fill Interp) s = omega arith
led (Fill Cusp) s = absurd s
led (Fill NextCusp360) s = absurd s
led NextCusp s = absurd s
led Done s = absurd s

module _ (nang : ℕ) (w : Walk) where
  fine_search : (dead over beyond cusp : Bool) (l : Looked) → (beyond ≡ false → w.ia < nang) → Looks w.ihigh w.ih w.looks l
      → Bounds nang Search w → Fine nang Search w (search_by dead over beyond cusp w l)
  unfolding search_by
  fine_search true over beyond cusp l i k g = omega arith
  fine_search false true beyond cusp l i k g = omega arith
  fine_search false false true cusp l i k g = omega arith
  fine_search false false false true l i k g = omega (arith, i refl)
  fine_search false false false false l i k g = omega (arith, i refl, led l.label k.seen)

  fine_next_layer : (first f1 second : Bool) → (first ≡ true → w.il ≡ 1) → (second ≡ true → w.il ≡ 2)
      → Bounds nang NextLayer w → Fine nang NextLayer w (next_layer_by first f1 second w)
  unfolding next_layer_by
  fine_next_layer true true second t s g = omega (arith, t refl)
  fine_next_layer true false second t s g = omega (arith, t refl)
  fine_next_layer false f1 true t s g = omega (arith, s refl)
  fine_next_layer false f1 false t s g = omega arith

  fine_next_cusp : (third over : Bool) → (third ≡ false → w.il < 3) → Bounds nang NextCusp w → Fine nang NextCusp w (next_cusp_by third over w)
  unfolding next_cusp_by
  fine_next_cusp true over t g = omega arith
  fine_next_cusp false true t g = omega arith
  fine_next_cusp false false t g = omega (arith, t refl)

  fine_filled : (full : Bool) (fill : F.Fill) → Bounds nang (Fill fill) w → Fine nang (Fill fill) w (filled_by full fill w)
  unfolding filled_by
  fine_filled true Exact g = omega arith
  fine_filled true Interp g = omega arith
  fine_filled true Cusp g = omega arith
  fine_filled true NextCusp360 g = omega arith
  fine_filled false Exact g = omega arith
  fine_filled false Interp g = omega arith
  fine_filled false Cusp g = omega arith
  fine_filled false NextCusp360 g = omega arith

  pub search_fine : (ifob : List ℤ) (delpen : List Float) (jfhz : ℕ) → Bounds nang Search w → Fine nang Search w (search_of ifob delpen jfhz nang w)
  unfolding search_of
  search_fine ifob delpen jfhz g =
      fine_search _ _ _ _ _ (leb-false nang w.ia) (looks_leave ifob jfhz (w.ia * 30) w.ilow w.ihigh w.ih w.looks (omega arith)) g

  pub next_layer_fine : (second : Float) → Bounds nang NextLayer w → Fine nang NextLayer w (next_layer_of second w)
  unfolding next_layer_of
  next_layer_fine second g = fine_next_layer _ _ _ (eqb-true w.il 1) (eqb-true w.il 2) g

  pub next_cusp_fine : (delpen : List Float) → Bounds nang NextCusp w → Fine nang NextCusp w (next_cusp_of delpen w)
  unfolding next_cusp_of
  next_cusp_fine delpen g = fine_next_cusp _ _ (leb-false 3 w.il) g

  pub filled_fine : (fill : F.Fill) → Bounds nang (Fill fill) w → Fine nang (Fill fill) w (filled_of fill w)
  unfolding filled_of
  filled_fine fill g = fine_filled (leb 45 (w.rows + 1)) fill g

-- the same of the state that the code has
pub steps_fine : {nang : ℕ} {l : Label} {w v v' : Walk} → w.label ≡ l → Good nang w → v' ≡ v → (Bounds nang l w → Fine nang l w v) → Fine nang w.label w v'
steps_fine {nang} {l} {w} {v} {v'} p g q f =
    let g' : Bounds nang l w = rw (sym p) g in
    subst (λ (x : Label). Fine nang x w v') (sym p) (subst (Fine nang l w) (sym q) (f g'))

pub step_fine : (e : Inputs) (l : Label) (w : Walk) (r : Reflectrix) → done_at l ≡ false → Bounds e.nang l w → Fine e.nang l w (step_by e l w r).0
unfolding step_by
step_fine e Search w r d g = search_fine e.nang w e.tables.ifob e.delpen e.jfhz g
step_fine e NextLayer w r d g = next_layer_fine e.nang w e.second g
step_fine e NextCusp w r d g = next_cusp_fine e.nang w e.delpen g
step_fine e (Fill fill) w r d g = filled_fine e.nang w fill g
step_fine e Done w r d g = let z : ◌≡◌ {A = ℕ} 0 1 = cc in absurd (omega arith)

-- ---- the bounds of a walk
last_range : (il : ℕ) → 1 ≤ il → il ≤ 3 → 10 * il ≤ 29 + past il
last_range zero p q = omega arith
last_range (suc zero) p q = omega arith
last_range (suc (suc n)) p q = omega arith

pub few_looks : {nang : ℕ} {l : Label} {w : Walk} → Bounds nang l w → w.looks ≤ nang + 28
few_looks {nang} {l} {w} g = omega (arith, last_range w.il (omega arith) (omega arith))

pub few_rows : {nang : ℕ} {l : Label} {w : Walk} → Bounds nang l w → w.rows ≤ nang + 4
few_rows g = omega arith

pub good_start : (nang : ℕ) → nang ≤ 40 → Good nang start
good_start nang h = omega arith
