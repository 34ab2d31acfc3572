-- What private functions promise each other: nothing that a reader must believe.
use Rattle.std.specs.Prelude.{false, ℕ, ◌*◌, ◌^◌, ◌≤◌, ◌<◌, Float}
use Rattle.std.specs.Float.Ieee.Exact.{HasValue}

-- a number above 0, taken apart: x is s * 2 ^ e / 2 ^ 298, s has 24 digits, and e is in an f32's range
pub record Apart (x : Float) (s e : ℕ) : Type 0 where
  pub value : HasValue x false (s * 2 ^ e) (2 ^ 298)
  pub leading : 2 ^ 23 ≤ s
  pub digits : s < 2 ^ 24
  pub above : 126 ≤ e
  pub below : e ≤ 402
