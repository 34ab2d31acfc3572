-- What is drawn of the rows of an answer. Assumes nothing.
use Rattle.std.specs.Prelude.{ℕ, zero, suc, ◌+◌, ◌/◌, ◌%◌, min, max, Bool, cond, not, ◌&&◌, List, eqb, leb, ltb}
use Rattle.rounding.specs.Decimals.{units_of}
use Rattle.job.specs.Layout.{word}
use Rattle.view.specs.View.{of_answer, rows_of}

-- neither NaN nor infinite
abbrev pub number_of : ℕ → Bool
number_of w = not (eqb (w / 8388608 % 256) 255)

-- a float by its bits, times t, "rounded once"; 0 below 0
abbrev pub shown_of : ℕ → ℕ → ℕ
shown_of w t = cond (ltb w 2147483648) (min (units_of w t) 100000000) 0

-- row r's hop length and angle, as bits
abbrev pub hop_of : List ℕ → ℕ → ℕ
hop_of answer r = word answer (of_answer "gdflx" + r)

abbrev pub angle_of : List ℕ → ℕ → ℕ
angle_of answer r = word answer (of_answer "delfx" + r)

-- "a row without a hop length is left out"
abbrev pub drawn_of : List ℕ → ℕ → Bool
drawn_of answer r = ltb r (rows_of answer) && number_of (hop_of answer r)

-- how far and how high row r asks the axes to reach, in 0.1 km and 0.001 deg
unfoldable pub far_of : List ℕ → ℕ → ℕ
far_of answer r = cond (drawn_of answer r) (shown_of (hop_of answer r) 10) 0

unfoldable pub high_of : List ℕ → ℕ → ℕ
high_of answer r = cond (ltb r (rows_of answer)) (shown_of (angle_of answer r) 1000) 0

-- row r's layer, and whether it has a hop length below 0, rounded to 0.1 km
abbrev pub layer_of : List ℕ → ℕ → ℕ
layer_of answer r = word answer (of_answer "imode" + r)

unfoldable pub below_of : List ℕ → ℕ → Bool
below_of answer r = drawn_of answer r && leb 2147483648 (hop_of answer r) && ltb 0 (min (units_of (hop_of answer r) 10) 1)

-- how many of the first n rows are so
unfoldable pub count_of : (ℕ → Bool) → ℕ → ℕ
count_of p zero = 0
count_of p (suc n) = count_of p n + cond (p n) 1 0

-- the largest of f 0, f 1, .. up to f (n - 1)
unfoldable pub largest : (ℕ → ℕ) → ℕ → ℕ
largest f zero = 0
largest f (suc n) = max (largest f n) (f n)
