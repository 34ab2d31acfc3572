use Rattle.decimal.proofs.PageLaws.{put_one}
use Rattle.decimal.proofs.page.Page.put.Goals as goal

pub returns-then-self : goal.returns-then-self
returns-then-self c = rw (← c.self.view_is) (put_one c.self.inside.bytes.now c.self.inside.end c.args.b c.self.inside.bytes.ghost_name c.if-self.true)
