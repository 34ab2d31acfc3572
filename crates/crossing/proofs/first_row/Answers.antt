use Rattle.crossing.specs.Crossing.{first_row_of}
use Rattle.crossing.proofs.first_row.Goals as goal

pub returns : goal.returns
unfolding first_row_of
returns c = rw (← c.numbered.ensures)
