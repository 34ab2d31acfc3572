use Rattle.std.proofs.Common.{refl}
use Rattle.system.proofs.io.Io.read.Goals as goal

pub returns-in-Err-clause-failure : goal.returns-in-Err-clause-failure
returns-in-Err-clause-failure g c = refl
