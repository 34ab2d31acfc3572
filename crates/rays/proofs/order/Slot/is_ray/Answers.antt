use Rattle.rays.proofs.order.Slot.is_ray.Goals as goal

pub returns : goal.returns
returns c = c.is_ray.ensures
