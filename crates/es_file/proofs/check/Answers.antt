use Rattle.es_file.proofs.FileLaws.{checked}
use Rattle.es_file.proofs.check.Goals as goal

pub returns : goal.returns
returns c = checked c.args.file.now c.check.ensures c.in_ok-check.was (rw c.job.ensures at c.check-2.ensures)
