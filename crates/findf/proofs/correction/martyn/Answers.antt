use Rattle.std.proofs.Common.{refl}
use Rattle.findf.specs.Rows.{corrected_of, high_of}
use Rattle.findf.proofs.correction.martyn.Goals as goal

pub returns : goal.returns
unfolding corrected_of high_of
returns c = refl
