use Rattle.crossing.specs.Crossing.{across_cusp}
use Rattle.crossing.proofs.CrossingLaws.{past}
use Rattle.crossing.proofs.across_cusp.Goals as goal

pub returns-then-s-lt-SLOTS : goal.returns-then-s-lt-SLOTS
unfolding across_cusp
returns-then-s-lt-SLOTS c = rw (← c.is_ray-ray.ensures, c.if-ray.true, ← c.first_row.ensures) c.crossed.ensures

pub returns-else-s-lt-SLOTS : goal.returns-else-s-lt-SLOTS
returns-else-s-lt-SLOTS c = past _ _ _ c.if-s-lt-SLOTS.false

pub returns-else-ray : goal.returns-else-ray
unfolding across_cusp
returns-else-ray c = rw (← c.is_ray-ray.ensures, c.if-ray.false)
