use Rattle.std.proofs.Common.{◌≡◌, true, refl}
use Rattle.es_file.proofs.FileLaws.{number_is}
use Rattle.system.specs.Status.{is_status}
use Rattle.tool.proofs.es.held.Goals as goal

pub invariant_of-result : goal.invariant_of-result
invariant_of-result c =
    record { in_help = rw c.in-Err.ensures (number_is (λ n. is_status n ≡ true) refl refl refl refl refl c.args.file.now) }
