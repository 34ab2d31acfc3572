use Rattle.std.proofs.Common.{Err}
use Rattle.system.proofs.StatusLaws.{status_named}
use Rattle.tool.proofs.run.Goals as goal

pub returns-in-Ok : goal.returns-in-Ok
returns-in-Ok g c = c.serve.ensures

pub returns-in-Err : goal.returns-in-Err
returns-in-Err g c = rw c.status.ensures (status_named (Err c.wrong-failure.result))
