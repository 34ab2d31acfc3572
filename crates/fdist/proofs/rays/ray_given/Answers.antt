use mathlib.Core.Path.{subst}
use native.Mathlib.Omega.{arith}
use Rattle.fdist.specs.Requires.{Within}
use Rattle.fdist.proofs.rays.ray_given.Goals as goal

pub row_ray-requires : goal.row_ray-requires
row_ray-requires c = omega (arith, subst (Within _) c.in-Row.is c.requires.1)

pub returns-in-Nothing : goal.returns-in-Nothing
returns-in-Nothing c = simp c.in-Nothing.is

pub returns-in-Row : goal.returns-in-Row
returns-in-Row c = simp (c.in-Row.is, ← c.row_ray.ensures)

pub returns-in-Spot : goal.returns-in-Spot
returns-in-Spot c = simp (c.in-Spot.is, ← c.row_ray-a.ensures, ← c.row_ray-b.ensures, ← c.spot_ray.ensures)
