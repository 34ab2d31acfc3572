use Rattle.es_file.specs.File.{modes_of}
use Rattle.es_file.proofs.modes.Goals as goal

pub returns : goal.returns
unfolding modes_of
returns c = rw c.job.ensures at c.esmod.ensures
