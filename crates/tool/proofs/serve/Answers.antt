use Rattle.system.proofs.StatusLaws.{status_named}
use Rattle.tool.proofs.serve.Goals as goal

pub returns : goal.returns
returns g c = rw c.status.ensures (status_named c.done.result)
