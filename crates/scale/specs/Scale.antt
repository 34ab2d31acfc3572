-- The scales of the drawing (the drawing's page): lengths in 0.1 km, angles in 0.001 deg, places in 0.1 px. Assumes nothing.
use Rattle.std.specs.Prelude.{ℕ, zero, suc, ◌+◌, ◌-◌, ◌*◌, ◌/◌, ◌<◌, ◌≤◌, min, max, ◌≡◌, Bool, cond, ◌&&◌, ltb}
use Rattle.scale.specs.declared.Axis.{Axis}

-- 1, 2, 5, 10, 20, 50, ..: "1, 2, 5 times a power of ten"
unfoldable pub step_at : ℕ → ℕ
step_at zero = 1
step_at (suc zero) = 2
step_at (suc (suc zero)) = 5
step_at (suc (suc (suc k))) = 10 * step_at k

-- the least of them of which `most` reach the top
pub record Least (top most step : ℕ) : Type 0 where
  pub k : ℕ
  pub is : step ≡ step_at k
  pub reaches : top ≤ most * step
  pub least : (j : ℕ) → j < k → most * step_at j < top

-- an axis up to `top`, marked in steps of `unit`, `most` of them at most: it ends at the first mark that is not below the top
pub record Marked (unit most top : ℕ) (a : Axis) : Type 0 where
  pub step : Least top (unit * most) a.step
  pub end : a.end ≡ unit * a.step * a.count
  pub reaches : top ≤ a.end
  pub first : a.end < top + unit * a.step
  pub few : a.count ≤ most

-- "Across to the longest row or the asked length, whichever is more, and 2 % over"; 1 km at least
abbrev pub over : ℕ → ℕ
over far = max far 10 + far / 50

-- "where the asked length is more than 1.5 times the longest row": never where no row is longer than 0
abbrev pub beyond_of : ℕ → ℕ → Bool
beyond_of far asked = ltb 0 far && ltb (3 * far) (2 * asked)

-- where the axis of lengths has to reach
abbrev pub across_of : ℕ → ℕ → ℕ
across_of far asked = over (cond (beyond_of far asked) far (max far asked))

-- "Up to the highest .. plus 0.5, 10 at least and 90 at most"
abbrev pub up_of : ℕ → ℕ
up_of high = min (max high 9500 + 500) 90000

-- width * g / end, rounded once, where g is at most the end
abbrev pub part_of : ℕ → ℕ → ℕ → ℕ
part_of width g end = (width * (2 * min g end) + end) / (2 * end)

-- the plot: 640 to 6400 across, 1260 (the top) to 5440
abbrev pub ax_of : ℕ → ℕ → ℕ
ax_of g end = 640 + part_of 5760 g end

abbrev pub ay_of : ℕ → ℕ → ℕ
ay_of t end = 5440 - part_of 4180 t end

-- "19 px apart at least": a ring stands at its dot, or so far above the one below it on its side
abbrev pub lifted_of : ℕ → ℕ → ℕ
lifted_of last y = min y (last - 190)

-- and leaves room below the plot's top for itself and for the rings above it, 5 at most
abbrev pub ring_of : ℕ → ℕ → ℕ
ring_of y above = max y (1350 + 190 * min above 5)
