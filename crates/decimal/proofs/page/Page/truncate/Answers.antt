use Rattle.decimal.proofs.PageLaws.{cut_back}
use Rattle.decimal.proofs.page.Page.truncate.Goals as goal

pub returns : goal.returns
returns c = rw (← c.self.view_is, c.min-self-inside.ensures) (cut_back c.self.inside.bytes.now c.self.inside.end c.args.len c.self.inside.bytes.ghost_name c.self.invariant)
