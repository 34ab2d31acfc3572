use Rattle.std.proofs.Common.{ℕ, ap, ◌∙◌}
use Rattle.curve.specs.Rows.{shown_of}
use Rattle.curve.proofs.row.Row.angle.Goals as goal

pub returns : goal.returns
returns c = c.in_thousandths.ensures ∙ ap (λ (w : ℕ). shown_of w 1000) c.bits.ensures
