use Rattle.std.proofs.Common.{ap, ◌∙◌, ℕ, ◌+◌, ◌-◌, ◌*◌, ◌^◌, arith}
use Rattle.parse.proofs.Rounding.{closest_by, nearest_by, nearest_none}
use Rattle.parse.proofs.nearest.over.Goals as goal

pub returns-then-n-eq0 : goal.returns-then-n-eq0
returns-then-n-eq0 c = rw c.if-n-eq0.true (nearest_none _ (omega arith))

pub returns : goal.returns
returns c = ap (λ (y : ℕ). (149 - c.doubled_to-x.result.times) * 2 ^ 23 + y) (c.nearest.ensures.value (omega arith) ∙ closest_by _ _ (omega arith)) ∙ nearest_by c.args.n c.args.d c.doubled_to-x.result.times c.doubled_to-x.result.x (omega arith) (omega arith) c.doubled_to-x.ensures.x_value c.doubled_to-x.ensures.least_le_x (omega arith)
