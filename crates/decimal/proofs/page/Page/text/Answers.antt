use Rattle.std.proofs.Common.{◌+◌, ◌-◌, arith}
use Rattle.decimal.proofs.PageLaws.{put_text}
use Rattle.decimal.proofs.page.Page.text.Goals as goal

pub returns : goal.returns
returns c = rw (← c.self.view_is) (put_text c.self.inside.bytes.now c.args.s.now c.copy_from_slice.new.self c.self.inside.end c.min-n.result (c.self.inside.end + c.min-n.result - c.self.inside.end) c.self.inside.bytes.ghost_name c.self.invariant c.min-n.ensures (omega arith) c.copy_from_slice.ensures.after)
