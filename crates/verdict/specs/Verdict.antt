-- The verdict: what the drive should do, by the first case that holds.
use Rattle.std.specs.Prelude.{ℕ, Bool, true, false, ◌&&◌, List, [], ◌∷◌, ltb, eqb, Float}
use Rattle.std.specs.Float.Ieee.{lt, le}
use Rattle.arith.specs.Floats.{f32}
use Rattle.arith.specs.Numbers.{0·0}
use Rattle.job.specs.Layout.{word}
use Rattle.job.specs.Answer.{slots}
use Rattle.view.specs.View.{of_answer, asked_of, slot_of, is_empty, rays_before}
use Rattle.view.specs.declared.State.{State}
use Rattle.verdict.specs.declared.Case.{Case}
use Rattle.verdict.specs.declared.Case.TheVariants.{Rays, NoRows, TooLong, NoLength, TooShort, NoPair, BelowMinimum}

-- what the verdict looks at: how many slots are rays, slot 1, the rows, the asked length d, the farthest and the nearest length
pub record Seen : Type 0 where
  pub rays : ℕ
  pub first : State
  pub rows : ℕ
  pub asked : Float
  pub dmaxkm : Float
  pub dskpkm : Float

-- "The first case that holds", or the last one
abbrev pub first_of : List (Bool × Case) → Case → Case
first_of [] last = last
first_of ((true, c) ∷ cs) last = c
first_of ((false, c) ∷ cs) last = first_of cs last

-- "some slot is a ray; no rows; d ≥ dmaxkm, dmaxkm > 0; d ≥ dmaxkm, else; slot 1 is empty, d < dskpkm; slot 1 is empty, else; else"
unfoldable pub case_of : Seen → Case
case_of s =
    first_of
    ((ltb 0 s.rays, Rays)
    ∷ (eqb s.rows 0, NoRows)
    ∷ (le s.dmaxkm s.asked && lt 0·0 s.dmaxkm, TooLong)
    ∷ (le s.dmaxkm s.asked, NoLength)
    ∷ (is_empty s.first && lt s.asked s.dskpkm, TooShort)
    ∷ (is_empty s.first, NoPair)
    ∷ [])
    BelowMinimum

-- "All of it is read off the answer and the job's first words."
unfoldable pub seen_of : List ℕ → List ℕ → Seen
seen_of job answer =
    record {
      rays = rays_before job answer slots;
      first = slot_of job answer 0;
      rows = word answer (of_answer "rows");
      asked = f32 (asked_of job);
      dmaxkm = f32 (word answer (of_answer "dmaxkm"));
      dskpkm = f32 (word answer (of_answer "dskpkm"));
    }

abbrev pub verdict_of : List ℕ → List ℕ → Case
verdict_of job answer = case_of (seen_of job answer)
