-- Order 2 of a job, "The kind of each row": one record over the rows, the kinds and the angles of its answer, a clause a line, each under the sentence that it stands for.
-- `OfSolved` says it of a solved job, `OfBytes` of the bytes that the job call leaves, read by the names of their places. Rows count from 0.
use Rattle.std.specs.Prelude.{ℕ, ◌-◌, ◌≤◌, ◌<◌, ◌≡◌, List, length, get_or, Float}
use Rattle.std.specs.Float.{nan}
use Rattle.arith.specs.Floats.{◌⊕◌, f32}
use Rattle.arith.specs.Numbers.{0·001}
use Rattle.words.specs.Lists.{tab}
use Rattle.limits.specs.Limits.{broken}
use Rattle.findf.specs.Demand.{rows_due, kind_due, rows_in, nonzero, state_at}
use Rattle.job.specs.Parts.{Parts, job_of, limits_of}
use Rattle.job.specs.Solved.{all_zero, solved_of}
use Rattle.job.specs.Job.{refusal_of, left_of}
use Rattle.demand.specs.Demand3.{word_in}

-- "the kind follows the definition of the walk": after some steps of the job's walk comes the one that writes row i, and it gives the kind k
pub record WrittenAs (p : Parts) (i k : ℕ) : Type 0 where
  pub after : ℕ
  pub writes : rows_due (state_at all_zero p.walk after) ≡ 1
  pub row_is : rows_in (state_at all_zero p.walk after) ≡ i
  pub kind_is : k ≡ kind_due (state_at all_zero p.walk after)

pub record Kinds (p : Parts) (rows : ℕ) (kind : ℕ → ℕ) (angle : ℕ → Float) : Type 0 where
  -- "Each row carries a kind:"
  pub kind_written : (i : ℕ) → i < rows → WrittenAs p i (kind i)
  -- "1 exact or filled because the lowest entry passes, 2 interpolated, 3 cusp, 4 the row after a cusp."
  pub kind_range : (i : ℕ) → i < rows → (1 ≤ kind i) × (kind i ≤ 4)
  -- the row after a cusp: right after it, at its angle + 0.001
  pub after_cusp : (i : ℕ) → i < rows → kind i ≡ 4 → (1 ≤ i) × ((kind (i - 1) ≡ 3) × (angle i ≡ angle (i - 1) ⊕ 0·001))
  -- "Rows not written in this call have 0."
  pub kind_beyond : (i : ℕ) → rows ≤ i → i < 45 → kind i ≡ 0
  -- so that rows are the kinds that are not 0
  pub kind_count : nonzero (tab 45 kind) ≡ rows

-- of a solved job
abbrev pub OfSolved : Type 0
OfSolved = (p : Parts) → broken (limits_of p) ≡ 0
    → Kinds p (solved_of p).rfx.rows_this_call (λ i. get_or (solved_of p).rfx.kind i 0) (λ i. get_or (solved_of p).rfx.delfx i nan)

-- of the bytes that the job call leaves in an answer that held the bytes `entry`
abbrev pub OfBytes : Type 0
OfBytes = (job entry : List ℕ) → refusal_of job (length entry) ≡ 0
    → let answer = left_of job entry in Kinds (job_of job) (word_in answer "rows" 0) (word_in answer "kind") (λ i. f32 (word_in answer "delfx" i))
