-- Document 01, "The words of demand 3", of a walk: "Looks are the turns of the inner loop, rows those written". What each step adds to the two counts, the kind of the row that it writes,
-- the walk's start, the state after n steps, and the row that a fill writes.
use Rattle.std.specs.Prelude.{◌≡◌, ℕ, zero, suc, ◌-◌, ◌*◌, Bool, true, false, List, [], ◌∷◌, ℤ, nat_le, slice_index_or}
use Rattle.std.specs.Float.{nan}
use Rattle.std.specs.Float.Ieee.{lt, le}
use Rattle.arith.specs.Floats.{◌⊖◌}
use Rattle.arith.specs.Numbers.{0·0, 89·99}
use Rattle.arith.specs.Run.{count, iterate}
use Rattle.findf.specs.Inputs.{Job, Inputs}
use Rattle.findf.specs.Look.{look_of}
use Rattle.findf.specs.Walk.{ang_of, start}
use Rattle.findf.specs.Rows.{row_of, kind_of}
use Rattle.findf.specs.Findf.{State, step_of, begun, read_by, angles_of}
use Rattle.findf.specs.declared.walk.Walk.{Walk}
use Rattle.findf.specs.declared.walk.Label.{Label}
use Rattle.findf.specs.declared.walk.Label.TheVariants.{Search, NextLayer, Fill, NextCusp, Done}
use Rattle.findf.specs.declared.walk.Fill as F
use Rattle.findf.specs.declared.correction.Row.{Row}
use Rattle.findf.specs.declared.Reflectrix.{Reflectrix}

-- "a look is one turn of the inner loop": its turns from row ih, at the angle whose entries start at `column`
abbrev pub looks_from : List ℤ → ℕ → ℕ → ℕ → ℕ → ℕ → ℕ → ℕ
looks_from ifob jfhz column ilow ihigh ih looks = count (look_of ifob jfhz column ilow ihigh) (λ _. 1) (suc (ihigh - ih)) (ih, looks)

-- by the four tests of a search (lines 727 to 747: next layer, end of all, beyond nang, cusp): the looks that follow, or none
abbrev pub looks_by : Bool → Bool → Bool → Bool → ℕ → ℕ
looks_by true over beyond cusp n = 0
looks_by false true beyond cusp n = 0
looks_by false false true cusp n = 0
looks_by false false false true n = 0
looks_by false false false false n = n

-- the turns of the inner loop in the step from a state
unfoldable pub looks_at : Inputs → Label → Walk → ℕ
looks_at e Search w =
    let del = slice_index_or e.delpen (w.il - 1) nan in
    looks_by (le del 0·0) (lt 89·99 del) (nat_le e.nang w.ia) (le (del ⊖ ang_of w.ia) 0·0)
    (looks_from e.tables.ifob e.jfhz (w.ia * 30) w.ilow w.ihigh w.ih w.looks)
looks_at e NextLayer w = 0
looks_at e (Fill fill) w = 0
looks_at e NextCusp w = 0
looks_at e Done w = 0

abbrev pub looks_due : Inputs → State → ℕ
looks_due e s = looks_at e s.0.label s.0

-- 1 where the step writes a row
abbrev pub due : Label → ℕ
due (Fill fill) = 1
due Search = 0
due NextLayer = 0
due NextCusp = 0
due Done = 0

abbrev pub rows_due : State → ℕ
rows_due s = due s.0.label

-- order 2: the kind of the row that the step writes, 0 where it writes none
abbrev pub kind_at : Label → ℕ
kind_at (Fill fill) = kind_of fill
kind_at Search = 0
kind_at NextLayer = 0
kind_at NextCusp = 0
kind_at Done = 0

abbrev pub kind_due : State → ℕ
kind_due s = kind_at s.0.label

-- the rows written so far, which is the number of the next, counted from 0
abbrev pub rows_in : State → ℕ
rows_in s = s.0.rows

-- how many are not 0
abbrev pub nonzero : List ℕ → ℕ
nonzero [] = 0
nonzero (zero ∷ ns) = nonzero ns
nonzero (suc n ∷ ns) = suc (nonzero ns)

-- what an accepted job's walk reads, the reflectrix it starts with, and its state after n steps
abbrev pub read : Job → Inputs
read j = read_by j (angles_of j)

abbrev pub first : Reflectrix → Job → Reflectrix
first r j = begun r (angles_of j)

abbrev pub state_at : Reflectrix → Job → ℕ → State
state_at r j n = iterate n (step_of (read j)) (start, first r j)

-- the row that a fill writes
abbrev pub row_at : Inputs → F.Fill → Walk → Reflectrix → Row
row_at e fill w r = row_of e r.delfx fill w

-- row i of r is t
pub record RowIs (i : ℕ) (t : Row) (r : Reflectrix) : Type 0 where
  pub is_del : slice_index_or r.delfx i nan ≡ t.del
  pub is_hp : slice_index_or r.hpflx i nan ≡ t.hp
  pub is_ht : slice_index_or r.htflx i nan ≡ t.ht
  pub is_gdr : slice_index_or r.gdflx i nan ≡ t.gdr
  pub is_fv : slice_index_or r.fvflx i nan ≡ t.fv
  pub is_af : slice_index_or r.afflx i nan ≡ t.af
  pub is_mode : slice_index_or r.imode i 0 ≡ t.mode
  pub is_kind : slice_index_or r.kind i 0 ≡ t.kind
