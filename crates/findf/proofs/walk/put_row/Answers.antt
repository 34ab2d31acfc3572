use Rattle.std.proofs.Common.{refl}
use Rattle.findf.proofs.walk.put_row.Goals as goal

pub returns : goal.returns
returns c = refl
