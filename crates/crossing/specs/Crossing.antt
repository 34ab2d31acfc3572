-- Order 2: "marks a ray whose pair is a cusp and the row after it `across a cusp`". Rows, pairs and slots count from 0.
use Rattle.std.specs.Prelude.{ℕ, ◌+◌, Bool, false, cond, ◌&&◌, List, eqb, ltb, get_or, Float}
use Prim.Native.String.{String}
use Rattle.arith.specs.Floats.{◌⊗◌, RZ}
use Rattle.words.specs.Lists.{tab}
use Rattle.findf.specs.declared.Reflectrix.{Reflectrix}
use Rattle.fdist.specs.declared.Searched.{Searched}
use Rattle.fdist.specs.Pairs.{pair_of, is_spot}
use Rattle.fdist.specs.Fdist.{fdist_of}
use Rattle.job.specs.Parts.{number_at, numbers_at}
use Rattle.job.specs.Answer.{column_rows}
use Rattle.job.specs.Solved.{all_zero, no_slots}
use Rattle.view.specs.View.{of_job, of_answer, slot_of, is_ray, row_kind_of, is_cusp, is_after_cusp}

-- a column of an answer's numbers; the rows' own numbers
abbrev column_of : List ℕ → String → List Float
column_of answer name = numbers_at answer (of_answer name) column_rows

unfoldable pub row_numbers : List ℕ
row_numbers = tab column_rows (λ i. i)

-- what a search reads of the answer, with the rows' numbers for their layers
abbrev pub numbered_rows : List ℕ → Reflectrix
numbered_rows answer =
    record all_zero {
      delfx = column_of answer "delfx";
      hpflx = column_of answer "hpflx";
      htflx = column_of answer "htflx";
      gdflx = column_of answer "gdflx";
      fvflx = column_of answer "fvflx";
      afflx = column_of answer "afflx";
      imode = row_numbers;
      dmaxkm = number_at answer (of_answer "dmaxkm");
    }

-- the job's search over them
unfoldable pub numbered_of : List ℕ → List ℕ → Searched
numbered_of job answer = fdist_of no_slots (numbered_rows answer) (number_at job (of_job "ghop")) (number_at job (of_job "amind")) (number_at job (of_job "freq"))

-- the layer of a ray is that of its pair's first row, or of the row that it is: here that row's number
unfoldable pub first_row_of : List ℕ → List ℕ → ℕ → ℕ
first_row_of job answer s = get_or (numbered_of job answer).m.itmod s 0

-- "A pair gives nothing, a row as it is, or a spot between": rows i and i + 1 give a spot for the asked length
unfoldable pub spot_at : List ℕ → List ℕ → ℕ → Bool
spot_at job answer i =
    is_spot (pair_of 0 (number_at answer (of_answer "gdflx" + i)) (number_at answer (of_answer "gdflx" + (i + 1))) (number_at job (of_job "ghop") ⊗ RZ))

-- row i is a cusp, the next the row after it, and the two give a spot; past the last row there is none
unfoldable pub crossed_at : List ℕ → List ℕ → ℕ → Bool
crossed_at job answer i = cond (ltb i column_rows) (is_cusp (row_kind_of answer i) && is_after_cusp (row_kind_of answer (i + 1)) && spot_at job answer i) false

-- slot s is a ray, and across a cusp
unfoldable pub across_cusp : List ℕ → List ℕ → ℕ → Bool
across_cusp job answer s = eqb (is_ray (slot_of job answer s)) 1 && crossed_at job answer (first_row_of job answer s)
