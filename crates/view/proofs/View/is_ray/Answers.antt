use Rattle.view.proofs.ViewLaws.{is_ray_by}
use Rattle.view.proofs.View.is_ray.Goals as goal

pub returns : goal.returns
returns c = cc (c.eq.ensures, is_ray_by c.slot.result)
