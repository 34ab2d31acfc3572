-- What private functions ask for and promise each other: nothing that a reader must believe.
use Rattle.std.specs.Prelude.{◌≡◌, ℕ, ◌+◌, ◌-◌, ◌≤◌, true, List, ℤ, Float}
use Rattle.arith.specs.Floats.{◌⊗◌, D2R}
use Rattle.limits.specs.Limits.{ifob_within, entries_within}
use Rattle.penang.specs.Penang.{penang_of}
use Rattle.findf.specs.Findf.{jfhz_of, begun, walked_of}
use Rattle.findf.specs.Demand.{due}
use Rattle.findf.specs.Walk.{ang_of}
use Rattle.findf.specs.Rows.{rcosd_of}
use Rattle.findf.specs.declared.correction.Ahead.{Ahead}
use Rattle.findf.specs.declared.Reflectrix.{Reflectrix}
use Rattle.findf.specs.declared.Tables.{Tables}
use Rattle.findf.specs.declared.Walked.{Walked}
use Rattle.findf.specs.declared.walk.Walk.{Walk}
use Rattle.findf.specs.declared.walk.Label.{Label}
use Rattle.findf.specs.declared.walk.Label.TheVariants.{Search, NextLayer, Fill, NextCusp, Done}
use Rattle.findf.specs.declared.walk.Fill as F
use Rattle.findf.specs.declared.walk.Fill.TheVariants.{Exact, Interp, Cusp, NextCusp360}

-- ---- limit 10 of one entry, and of all 1,200
abbrev pub Entry : ℤ → Type 0
Entry v = ifob_within v ≡ true

abbrev pub Entries : List ℤ → Type 0
Entries ifob = entries_within ifob 1200 ≡ true

-- ---- what a state must satisfy for the code of its label to stay inside the tables: ranges alone, which a program can test

-- a number for each label: the four fills, then Search, NextLayer, NextCusp and Done
abbrev pub by_label : (exact interp cusp next360 search nextLayer nextCusp done : ℕ) → Label → ℕ
by_label exact interp cusp next360 search nextLayer nextCusp done (Fill Exact) = exact
by_label exact interp cusp next360 search nextLayer nextCusp done (Fill Interp) = interp
by_label exact interp cusp next360 search nextLayer nextCusp done (Fill Cusp) = cusp
by_label exact interp cusp next360 search nextLayer nextCusp done (Fill NextCusp360) = next360
by_label exact interp cusp next360 search nextLayer nextCusp done Search = search
by_label exact interp cusp next360 search nextLayer nextCusp done NextLayer = nextLayer
by_label exact interp cusp next360 search nextLayer nextCusp done NextCusp = nextCusp
by_label exact interp cusp next360 search nextLayer nextCusp done Done = done

-- 1 where an angle is taken
abbrev pub takes : Label → ℕ
takes = by_label 1 1 1 0 0 0 0 0

-- 1 where the row after ih is read too
abbrev pub interpolates : Label → ℕ
interpolates = by_label 0 1 0 0 0 0 0 0

-- 1 where the row after ihigh and the row written last are read
abbrev pub follows : Label → ℕ
follows = by_label 0 0 0 1 0 0 0 0

-- The label stands as an argument of its own, beside the state that has it, so that a proof can go by its cases.
pub record Safe (l : Label) (w : Walk) : Type 0 where
  pub ia_low : takes l ≤ w.ia
  pub ia_cap : w.ia ≤ 40
  pub il_low : 1 ≤ w.il
  pub il_cap : w.il ≤ 3
  pub ih_low : 1 ≤ w.ih
  pub ih_cap : w.ih + interpolates l ≤ w.ihigh
  pub ihigh_cap : w.ihigh + follows l ≤ 30
  pub ilow_low : 1 ≤ w.ilow
  pub ilow_cap : w.ilow ≤ 30
  pub rows_low : follows l ≤ w.rows
  pub rows_cap : w.rows + due l ≤ 45
  pub looks_cap : w.looks ≤ 100000

-- ---- a cosine that is worked out ahead of its row, and which rows take it

-- the number of a row's angle in ANG, 0 where it is none of ANG's
abbrev pub tabled_of : F.Fill → ℕ → ℕ
tabled_of Exact ia = ia
tabled_of Interp ia = ia
tabled_of Cusp ia = 0
tabled_of NextCusp360 ia = 0

-- an angle, in radians, that is ANG's of number n, unless n is 0
abbrev pub Angled : ℕ → Float → Type 0
Angled n del = 1 ≤ n → (n ≤ 40) × (del ≡ ang_of (n - 1) ⊗ D2R)

-- what was worked out ahead is what a row at ANG's angle ia takes
abbrev pub Foreseen : Ahead → Type 0
Foreseen a = (1 ≤ a.ia) × (a.rcosd ≡ rcosd_of (ang_of (a.ia - 1) ⊗ D2R))

-- ---- the walk from its start on, with the two numbers of the point that the checks granted
unfoldable pub started_of : Reflectrix → ℕ → Float → Float → Float → Float → Tables → Walked
started_of r nang freq amind second third t =
    let p = penang_of t.fvert t.htrue second freq in
    walked_of
    (record {
      nang = nang;
      freq = freq;
      amind = amind;
      jfhz = jfhz_of freq;
      second = second;
      fc2 = third ⊗ third;
      delpen = p.delpen;
      tables = t;
    })
    (begun r p)
