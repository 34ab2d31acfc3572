use Rattle.findf.proofs.Entry.{same, casts}
use Rattle.findf.proofs.look.unsigned.Goals as goal

pub overflow_cast-result : goal.overflow_cast-result
overflow_cast-result c = rw (same c.args.v c.requires) (casts c.args.v c.requires)
