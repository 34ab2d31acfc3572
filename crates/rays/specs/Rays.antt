-- What is drawn of the rays of an answer. Assumes nothing.
use Rattle.std.specs.Prelude.{ℕ, ◌+◌, cond, List}
use Rattle.curve.specs.Rows.{shown_of}
use Rattle.job.specs.Layout.{word}
use Rattle.view.specs.View.{of_answer, ray_at}

-- slot s's angle, in 0.001 deg
unfoldable pub angle_of : List ℕ → ℕ → ℕ
angle_of answer s = shown_of (word answer (of_answer "delmod" + s)) 1000

-- how high slot s asks the axis to reach: "Up to the highest row, ray or minimum"
unfoldable pub high_of : List ℕ → List ℕ → ℕ → ℕ
high_of job answer s = cond (ray_at job answer s) (angle_of answer s) 0
