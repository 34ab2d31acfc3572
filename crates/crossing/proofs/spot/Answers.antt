use Rattle.std.proofs.Common.{◌∙◌}
use Rattle.crossing.specs.Crossing.{spot_at}
use Rattle.crossing.proofs.spot.Goals as goal

pub returns : goal.returns
unfolding spot_at
returns c = c.gives_spot.ensures ∙ rw (c.number-3.ensures, c.number-2.ensures, c.number.ensures)
