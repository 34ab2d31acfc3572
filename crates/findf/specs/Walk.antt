-- The walk of findf, modes.rs lines 699 to 904: its state without the reflectrix, and what each label does with it.
-- A row's number, `rows`, counts from 0: it is the Rust's iaf less 1. Where the walk ends beyond nang, the Rust's ia is one more; nothing reads it.
use Rattle.std.specs.Prelude.{ℕ, ◌+◌, ◌-◌, ◌*◌, Bool, true, false, List, [], ◌∷◌, get_or, ℤ, ◌==◌, nat_le, slice_index_or, Float}
use Rattle.std.specs.Float.{nan}
use Rattle.std.specs.Float.Ieee.{lt, le}
use Rattle.arith.specs.Floats.{f32, ◌⊖◌}
use Rattle.arith.specs.Numbers.{0·0, 89·9, 89·99}
use Rattle.findf.specs.Look.{looks_of}
use Rattle.findf.specs.declared.look.Looked.{Looked}
use Rattle.findf.specs.declared.walk.Walk.{Walk}
use Rattle.findf.specs.declared.walk.Label.{Label}
use Rattle.findf.specs.declared.walk.Label.TheVariants.{Search, NextLayer, Fill, NextCusp, Done}
use Rattle.findf.specs.declared.walk.Fill as F
use Rattle.findf.specs.declared.walk.Fill.TheVariants.{Exact, Interp, Cusp, NextCusp360}

-- ANG, ionogram.rs lines 23 to 28: the 40 take-off angles
unfoldable pub ANG : List Float
ANG =
    f32 0x0000_0000 ∷ f32 0x3f00_0000 ∷ f32 0x3f80_0000 ∷ f32 0x4000_0000 ∷ f32 0x4040_0000 ∷ f32 0x4080_0000 ∷ f32 0x40a0_0000 ∷ f32 0x40c0_0000
    ∷ f32 0x4100_0000 ∷ f32 0x4120_0000 ∷ f32 0x4140_0000 ∷ f32 0x4160_0000 ∷ f32 0x4180_0000 ∷ f32 0x4190_0000 ∷ f32 0x41a0_0000 ∷ f32 0x41b0_0000
    ∷ f32 0x41c0_0000 ∷ f32 0x41d0_0000 ∷ f32 0x41e0_0000 ∷ f32 0x41f0_0000 ∷ f32 0x4200_0000 ∷ f32 0x4208_0000 ∷ f32 0x4210_0000 ∷ f32 0x4218_0000
    ∷ f32 0x4220_0000 ∷ f32 0x4228_0000 ∷ f32 0x4230_0000 ∷ f32 0x4238_0000 ∷ f32 0x4240_0000 ∷ f32 0x4248_0000 ∷ f32 0x4250_0000 ∷ f32 0x4258_0000
    ∷ f32 0x4260_0000 ∷ f32 0x4270_0000 ∷ f32 0x4282_0000 ∷ f32 0x428c_0000 ∷ f32 0x4296_0000 ∷ f32 0x42a0_0000 ∷ f32 0x42aa_0000 ∷ f32 0x42b3_fae1 ∷ []

-- ANG(i + 1)
unfoldable pub ang_of : ℕ → Float
ang_of i = slice_index_or ANG i nan

-- another label, and nothing else
abbrev pub with_label : Walk → Label → Walk
with_label w l =
    record { label = l; ia = w.ia; il = w.il; ih = w.ih; ilow = w.ilow; ihigh = w.ihigh; rows = w.rows; looks = w.looks }

-- an angle is taken, and the cusp lies at or below it
abbrev pub cusp_at : Walk → Walk
cusp_at w =
    record {
      label = Fill Cusp;
      ia = w.ia + 1;
      il = w.il;
      ih = w.ih;
      ilow = w.ilow;
      ihigh = w.ihigh;
      rows = w.rows;
      looks = w.looks;
    }

-- an angle is taken, and the looks end at row ih
abbrev pub looked_at : Walk → Looked → Walk
looked_at w l =
    record {
      label = l.label;
      ia = w.ia + 1;
      il = w.il;
      ih = l.ih;
      ilow = w.ilow;
      ihigh = w.ihigh;
      rows = w.rows;
      looks = l.looks;
    }

-- Search, lines 727 to 771, by its four tests: "angle ≤ 0 goes to the next layer, > 89.99 ends all, else the next ANG is taken, ending beyond nang.
-- If the layer angle minus ANG ≤ 0, the cusp row is written .. Else looks follow"
unfoldable pub search_by : Bool → Bool → Bool → Bool → Walk → Looked → Walk
search_by true over beyond cusp w l = with_label w NextLayer
search_by false true beyond cusp w l = with_label w Done
search_by false false true cusp w l = with_label w Done
search_by false false false true w l = cusp_at w
search_by false false false false w l = looked_at w l

-- the tests of lines 728, 732, 737 and 741, and the looks of the angle's column
unfoldable pub search_of : List ℤ → List Float → ℕ → ℕ → Walk → Walk
search_of ifob delpen jfhz nang w =
    let del = get_or delpen (w.il - 1) nan in
    search_by (le del 0·0) (lt 89·99 del) (nat_le nang w.ia) (le (del ⊖ ang_of w.ia) 0·0) w
    (looks_of ifob jfhz (w.ia * 30) w.ilow w.ihigh w.ih w.looks)

-- the search of a layer begins at row ih of the range ilow to ihigh
abbrev pub layer : Walk → ℕ → ℕ → ℕ → ℕ → Walk
layer w il ih ilow ihigh =
    record { label = Search; ia = w.ia; il = il; ih = ih; ilow = ilow; ihigh = ihigh; rows = w.rows; looks = w.looks }

-- NextLayer, lines 772 to 801, by whether il is 1, fi's second is above 0, and il is 2: "rows 1–10, 11–20, 21–30; with no F1, 11–30 for the last"
unfoldable pub next_layer_by : Bool → Bool → Bool → Walk → Walk
next_layer_by true true inF1 w = layer w 2 11 11 20
next_layer_by true false inF1 w = layer w 3 11 11 30
next_layer_by false f1 true w = layer w 3 21 (w.ihigh + 1) 30
next_layer_by false f1 false w = with_label w Done

unfoldable pub next_layer_of : Float → Walk → Walk
next_layer_of second w = next_layer_by (w.il == 1) (lt 0·0 second) (w.il == 2) w

-- NextCusp, lines 802 to 809: "unless the layer is the third or its angle ≥ 89.9, which end all"
unfoldable pub next_cusp_by : Bool → Bool → Walk → Walk
next_cusp_by true over w = with_label w Done
next_cusp_by false true w = with_label w Done
next_cusp_by false false w = with_label w (Fill NextCusp360)

unfoldable pub next_cusp_of : List Float → Walk → Walk
next_cusp_of delpen w = next_cusp_by (nat_le 3 w.il) (le 89·9 (slice_index_or delpen (w.il - 1) nan)) w

-- The label after a row, lines 895 to 899, by icusp, which is −1 at Exact and Interp, 0 at Cusp and 1 at NextCusp360
abbrev pub after_of : F.Fill → Label
after_of Exact = Search
after_of Interp = Search
after_of Cusp = NextCusp
after_of NextCusp360 = NextLayer

-- the angles that a row gives back: "the cusp row is written from the layer's last row, and that ANG is given back" (line 844)
abbrev pub back_of : F.Fill → ℕ
back_of Exact = 0
back_of Interp = 0
back_of Cusp = 1
back_of NextCusp360 = 0

-- a row more, and the label l
abbrev pub wrote : F.Fill → Label → Walk → Walk
wrote fill l w =
    record {
      label = l;
      ia = w.ia - back_of fill;
      il = w.il;
      ih = w.ih;
      ilow = w.ilow;
      ihigh = w.ihigh;
      rows = w.rows + 1;
      looks = w.looks;
    }

-- the state once the row is written (lines 890 to 899); "The Rust stops at 45 rows; no job passes 44."
unfoldable pub filled_by : Bool → F.Fill → Walk → Walk
filled_by true fill w = wrote fill Done w
filled_by false fill w = wrote fill (after_of fill) w

unfoldable pub filled_of : F.Fill → Walk → Walk
filled_of fill w = filled_by (nat_le 45 (w.rows + 1)) fill w

-- the label at which the walk ends (line 901)
abbrev pub done_at : Label → Bool
done_at Search = false
done_at NextLayer = false
done_at (Fill fill) = false
done_at NextCusp = false
done_at Done = true

-- lines 699 to 706 and 724
abbrev pub start : Walk
start = record { label = Search; ia = 0; il = 1; ih = 1; ilow = 1; ihigh = 10; rows = 0; looks = 0 }
