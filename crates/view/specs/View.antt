-- What the sheet and the drawing read of the bytes of a job and of its answer.
use Rattle.std.specs.Prelude.{ℕ, zero, suc, ◌+◌, ◌*◌, Bool, true, false, ◌&&◌, cond, min, List, Option, Some, None, eqb, leb, ltb, Float}
use Prim.Native.String.{String}
use Rattle.std.specs.Float.{binary32}
use Rattle.std.specs.Float.Ieee.{to_bits, le}
use Rattle.arith.specs.Floats.{◌⊗◌, f32, RZ}
use Rattle.job.specs.Layout.{place_of, word}
use Rattle.job.specs.Parts.{point_numbers, shared_layout, job_layout}
use Rattle.job.specs.Answer.{column_rows, slots, answer_layout}
use Rattle.view.specs.declared.Layer.{Layer}
use Rattle.view.specs.declared.Layer.TheVariants.{E, F1, F2}
use Rattle.findf.specs.declared.RowKind.{RowKind}
use Rattle.findf.specs.declared.RowKind.TheVariants.{Exact, Interp, Cusp, NextCusp}
use Rattle.view.specs.declared.State.{State}
use Rattle.view.specs.declared.State.TheVariants.{Empty, Ray, TooLow}

-- the place of a job's part that its points share, by name, and of an answer's
abbrev pub of_job : String → ℕ
of_job name = place_of job_layout "shared" + place_of shared_layout name

abbrev pub of_answer : String → ℕ
of_answer = place_of answer_layout

-- "d is the asked length, `ghop × 6370` rounded once": its bits
unfoldable pub asked_of : List ℕ → ℕ
asked_of job = to_bits binary32 (f32 (word job (of_job "ghop")) ⊗ RZ)

-- the bits of the critical frequency of layer l (0 E, 1 F1, 2 F2) at the job's point; 0 where there is no such point or layer
unfoldable pub critical_of : List ℕ → ℕ → ℕ
critical_of job l = let k = word job 0 in cond (leb k 4 && leb l 2) (word job (of_job "fi" + point_numbers * k + l)) 0

-- a layer's number in the answer, and the layer that the pages show for a number: 1 E, 2 F1, else F2
abbrev pub layer_number : Layer → ℕ
layer_number E = 1
layer_number F1 = 2
layer_number F2 = 3

abbrev pub layer_by : ℕ → Layer
layer_by n = cond (eqb n 1) E (cond (eqb n 2) F1 F2)

-- "A slot is empty where its layer is 5; else it is a ray where its angle is ≥ amind, else too low."
unfoldable pub slot_by : ℕ → Float → Float → State
slot_by layer angle amind = cond (eqb layer 5) Empty (cond (le amind angle) Ray TooLow)

-- slot s of an answer, counted from 0; past the last it is empty
unfoldable pub slot_of : List ℕ → List ℕ → ℕ → State
slot_of job answer s = cond (ltb s slots) (slot_by (word answer (of_answer "itmod" + s)) (f32 (word answer (of_answer "delmod" + s))) (f32 (word job (of_job "amind")))) Empty

abbrev pub is_empty : State → Bool
is_empty Empty = true
is_empty Ray = false
is_empty TooLow = false

abbrev pub is_ray : State → ℕ
is_ray Empty = 0
is_ray Ray = 1
is_ray TooLow = 0

-- whether slot s is a ray
abbrev pub ray_at : List ℕ → List ℕ → ℕ → Bool
ray_at job answer s = eqb (is_ray (slot_of job answer s)) 1

-- how many of the first n slots are rays
unfoldable pub rays_before : List ℕ → List ℕ → ℕ → ℕ
rays_before job answer zero = 0
rays_before job answer (suc n) = rays_before job answer n + is_ray (slot_of job answer n)

-- how many rows
abbrev pub rows_of : List ℕ → ℕ
rows_of answer = min (word answer (of_answer "rows")) column_rows

-- order 2: "1 exact or filled because the lowest entry passes, 2 interpolated, 3 cusp, 4 the row after a cusp"; "Rows not written in this call have 0"
unfoldable pub row_kind_by : ℕ → Option RowKind
row_kind_by n = cond (eqb n 1) (Some Exact) (cond (eqb n 2) (Some Interp) (cond (eqb n 3) (Some Cusp) (cond (eqb n 4) (Some NextCusp) None)))

-- the kind of row r, counted from 0
unfoldable pub row_kind_of : List ℕ → ℕ → Option RowKind
row_kind_of answer r = cond (ltb r column_rows) (row_kind_by (word answer (of_answer "kind" + r))) None

abbrev pub is_cusp : Option RowKind → Bool
is_cusp None = false
is_cusp (Some Exact) = false
is_cusp (Some Interp) = false
is_cusp (Some Cusp) = true
is_cusp (Some NextCusp) = false

abbrev pub is_after_cusp : Option RowKind → Bool
is_after_cusp None = false
is_after_cusp (Some Exact) = false
is_after_cusp (Some Interp) = false
is_after_cusp (Some Cusp) = false
is_after_cusp (Some NextCusp) = true
