-- Laws of the scales: what is rounded stays inside the plot. Assumes nothing.
use Prim.Native.Nat.{ℕ, zero, suc, ◌+◌, ◌*◌, ◌/◌, ◌≤◌, ◌<◌}
use mathlib.Core.Path.{◌≡◌, sym, subst}
use Rattle.std.proofs.Common.{map, get_or}
use Rattle.std.specs.Int.{div_ceil}
use Rattle.std.proofs.lemmas.Grind.{div_ceil_times}
use Rattle.std.proofs.lemmas.List.FromFn.{get_or-map-range_with_len}
use Rattle.std.specs.List.{range_with_len}
use native.Mathlib.Omega.{arith}
use native.Mathlib.Nat.{mul-le-mul_left, add-mul, div-lt_iff_lt-mul, mul-add, zero-add, lt_of_mul-lt-mul_left, mul_comm, mul_left_comm}
use Rattle.scale.specs.Scale.{step_at, Least, lifted_of, ring_of}

-- the numerator of a part
below : (width m end : ℕ) → m ≤ end → 0 < end → 2 * (width * m) + end < (width + 1) * (2 * end)
below width m end h p = omega (arith, mul-le-mul_left width h, mul_left_comm width 2 end, add-mul width 1 (2 * end))

pub part_inside : (width m end : ℕ) → m ≤ end → 0 < end → (2 * (width * m) + end) / (2 * end) ≤ width
part_inside width m end h p = omega (arith, (div-lt_iff_lt-mul {k = 2 * end} {x = 2 * (width * m) + end} {y = width + 1} (omega arith)).1 (below width m end h p))

-- the steps, one after the other
pub steps_are : (k : ℕ) → k < 21 → get_or (map step_at (range_with_len 0 21)) k 0 ≡ step_at k
steps_are k h = get_or-map-range_with_len step_at 0 21 k k 0 h (zero-add k)

pub step_some : (k : ℕ) → 1 ≤ step_at k
unfolding step_at
step_some zero = omega arith
step_some (suc zero) = omega arith
step_some (suc (suc zero)) = omega arith
step_some (suc (suc (suc k))) = omega (arith, step_some k)

-- each step is at most two and a half times the one before
next_step : (j : ℕ) → 2 * step_at (suc j) ≤ 5 * step_at j
unfolding step_at
next_step zero = omega arith
next_step (suc zero) = omega arith
next_step (suc (suc zero)) = omega arith
next_step (suc (suc (suc j))) = omega (arith, next_step j)

-- so the least step that reaches the top is the first, or not far above it
pub least_small : (top most step : ℕ) → Least top most step → most * step ≤ most + 3 * top
unfolding step_at
least_small top most step h = go h.k h.is h.least
  where
    go : (k : ℕ) → step ≡ step_at k → ((j : ℕ) → j < k → most * step_at j < top) → most * step ≤ most + 3 * top
    go zero e l = subst (λ (s : ℕ). most * s ≤ most + 3 * top) (sym e) (omega arith)
    go (suc k) e l =
        subst (λ (s : ℕ). most * s ≤ most + 3 * top) (sym e)
        (omega (arith, l k (omega arith), mul-le-mul_left {m = 2 * step_at (suc k)} {n = 5 * step_at k} most (next_step k), mul_left_comm most 2 (step_at (suc k)), mul_left_comm most 5 (step_at k)))

-- how many times `one` reach the top
module _ (top one most : ℕ) (p : 0 < one) (h : top ≤ one * most) where
  pub ceiling_above : top ≤ one * div_ceil top one
  ceiling_above = omega (arith, div_ceil_times top one p, mul_comm one (div_ceil top one))

  pub ceiling_first : one * div_ceil top one < top + one
  ceiling_first = omega (arith, div_ceil_times top one p, mul_comm one (div_ceil top one))

  pub ceiling_few : div_ceil top one ≤ most
  ceiling_few = let less : div_ceil top one < most + 1 = lt_of_mul-lt-mul_left one {m = div_ceil top one} {n = most + 1} (omega (arith, ceiling_first, mul-add one most 1)) in omega arith

-- no ring is outside the plot
pub ring_inside : (y above : ℕ) → y ≤ 5350 → (1350 ≤ ring_of y above) × (ring_of y above ≤ 5350)
ring_inside y above h = (omega arith, omega arith)

-- two rings that stand next to each other on one side are 19 px apart: y is the lower one's place before there is room, z the upper one's dot
pub rings_apart : (y z above : ℕ) → 190 ≤ y → above ≤ 4 → ring_of (lifted_of y z) above + 190 ≤ ring_of y (above + 1)
rings_apart y z above h k = omega arith
