use Rattle.limits.specs.Limits.{es_within}
use Rattle.limits.proofs.es_within.Goals as goal

pub returns-then-km_within : goal.returns-then-km_within
unfolding es_within
returns-then-km_within c = simp (← c.km_within.ensures, c.if-km_within.true, c.points_within.ensures, c.holds.ensures, c.holds-then-km_within.ensures, c.holds-then-km_within-2.ensures)
