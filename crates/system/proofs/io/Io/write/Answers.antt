use Rattle.std.proofs.Common.{refl}
use Rattle.system.proofs.io.Io.write.Goals as goal

pub returns-in-Err : goal.returns-in-Err
returns-in-Err g c = refl
