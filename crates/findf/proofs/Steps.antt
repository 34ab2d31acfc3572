-- For `walk_rows`: what the calls of each label ensure comes to the step of the definition.
use Rattle.std.proofs.Common.{◌≡◌, false, refl, ap, ◌∙◌}
use lib.Ieee.{Float}
use Rattle.arith.specs.Run.{more, done, stop_by, until}
use Rattle.findf.specs.Walk.{search_of, next_layer_of, next_cusp_of, back_of, after_of, filled_of, done_at}
use Rattle.findf.specs.Rows.{raw_of, mode_of, kind_of, correction_of, row_by, row_of, skip_of, skip_in, far_of, put_of}
use Rattle.findf.specs.Findf.{State, fill_of, step_by, step_of, turn_of}
use Rattle.findf.specs.Inputs.{Inputs}
use Rattle.findf.specs.declared.walk.Walk.{Walk}
use Rattle.findf.specs.declared.walk.Label as L
use Rattle.findf.specs.declared.walk.Label.TheVariants.{Search, NextLayer, Fill, NextCusp, Done}
use Rattle.findf.specs.declared.walk.Fill as F
use Rattle.findf.specs.declared.correction.Corrected.{Corrected}
use Rattle.findf.specs.declared.rows.Filling.{Filling}
use Rattle.findf.specs.declared.correction.Row.{Row}
use Rattle.findf.specs.declared.skip.Skip.{Skip}
use Rattle.findf.specs.declared.Reflectrix.{Reflectrix}

module _ (e : Inputs) (w : Walk) (r : Reflectrix) where
  -- the turn, once the label is known, and the step from it
  turns : {s : State} (l : L.Label) → w.label ≡ l → done_at l ≡ false → step_by e l w r ≡ s → turn_of e (w, r) ≡ more s
  unfolding step_of until
  turns l p d q = ap (λ (x : L.Label). stop_by (done_at x) (w, r) (step_by e x w r)) p ∙ rw d (ap more q)

  pub searches : {v : Walk} → w.label ≡ Search → v ≡ search_of e.tables.ifob e.delpen e.jfhz e.nang w → turn_of e (w, r) ≡ more (v, r)
  unfolding step_by
  searches p v = turns Search p refl (simp (← v))

  pub next_layers : {v : Walk} → w.label ≡ NextLayer → v ≡ next_layer_of e.second w → turn_of e (w, r) ≡ more (v, r)
  unfolding step_by
  next_layers p v = turns NextLayer p refl (simp (← v))

  pub next_cusps : {v : Walk} → w.label ≡ NextCusp → v ≡ next_cusp_of e.delpen w → turn_of e (w, r) ≡ more (v, r)
  unfolding step_by
  next_cusps p v = turns NextCusp p refl (simp (← v))

  -- what a fill comes to: its row before the correction, the row's layer and kind, the angles given back and the label after it
  abbrev Filled : F.Fill → Filling → Type 0
  Filled fill q =
      (q.raw ≡ raw_of e.tables e.delpen r.delfx e.jfhz fill w)
      × ((q.mode ≡ mode_of fill w.il e.second) × ((q.kind ≡ kind_of fill) × ((q.back ≡ back_of fill) × (q.after ≡ after_of fill))))

  row_is : (fill : F.Fill) {q : Filling} {m : Corrected} {t : Row} → Filled fill q → m ≡ correction_of e.freq e.fc2 q.raw
      → t ≡ row_by q.raw m q.mode q.kind
      → t ≡ row_of e r.delfx fill w
  unfolding row_of
  row_is fill q m t = rw (t, m, q.0, q.1.0, q.1.1.0)

  pub fills : {fill : F.Fill} {v : Walk} {q : Filling} {m : Corrected} {t : Row} {s : Skip} {d : Float} {r' : Reflectrix} → w.label ≡ Fill fill → Filled fill q
      → m ≡ correction_of e.freq e.fc2 q.raw → t ≡ row_by q.raw m q.mode q.kind
      → s ≡ skip_of (skip_in r) t w.il → d ≡ far_of r.dmaxkm t.gdr t.del e.amind → r' ≡ put_of r w.rows t s d → v ≡ filled_of fill w
      → turn_of e (w, r) ≡ more (v, r')
  unfolding step_by fill_of
  fills {fill} p q m t s d put v = turns (Fill fill) p refl (simp (← row_is fill q m t, ← s, ← d, ← v, ← put))

  pub ends : w.label ≡ Done → turn_of e (w, r) ≡ done (w, r)
  unfolding until
  ends p = simp (p)
