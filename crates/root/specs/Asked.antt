-- What is asked of the square root of a number above 0: "the nearest f32" (document 01).
use Rattle.std.specs.Prelude.{◌+◌, ◌*◌, ◌^◌, ◌<◌, T, Float}
use Rattle.std.specs.Float.{binary32}
use Rattle.std.specs.Float.Ieee.{fits}
use Rattle.std.specs.Float.Ieee.Positive.{positive}
use Rattle.arith.specs.Floats.{scaled}

-- r is the f32 nearest to the root of x, with no ties. Take any other f32 v, one of r's two neighbours for example. The root lies on r's side of the midpoint of v and r:
-- ((v + r) / 2)² is below x where v is below r, and above x where v is above r. Magnitudes are counted in smallest values, 2 ^ -149, and x in their squares, so that nothing is cut.
pub record Nearest (x r : Float) : Type 0 where
  pub above_zero : T (positive r)
  pub is_f32 : T (fits binary32 r)
  pub over_lower : (v : Float) → T (fits binary32 v) → scaled 149 v < scaled 149 r → (scaled 149 v + scaled 149 r) ^ 2 < 4 * scaled 298 x
  pub under_higher : (v : Float) → T (fits binary32 v) → scaled 149 r < scaled 149 v → 4 * scaled 298 x < (scaled 149 v + scaled 149 r) ^ 2
