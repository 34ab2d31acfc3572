use Rattle.rays.specs.Rays.{high_of}
use Rattle.rays.proofs.order.Slot.high.Goals as goal

pub returns-then-is_ray : goal.returns-then-is_ray
unfolding high_of
returns-then-is_ray c = rw (← c.is_ray.ensures, c.if-is_ray.true) c.angle.ensures

pub returns-else-is_ray : goal.returns-else-is_ray
unfolding high_of
returns-else-is_ray c = rw (← c.is_ray.ensures, c.if-is_ray.false)
