use Rattle.std.proofs.lemmas.Grind.{common_steps}
use Rattle.std.proofs.Common.{arith}
use Rattle.test_entries.proofs.ray_prbmuf.Goals as goal

pub returns : goal.returns
returns c = grind (arith, common_steps)
