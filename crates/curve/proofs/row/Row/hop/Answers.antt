use Rattle.std.proofs.Common.{ℕ, ap, ◌∙◌}
use Rattle.curve.specs.Rows.{shown_of}
use Rattle.curve.proofs.row.Row.hop.Goals as goal

pub returns : goal.returns
returns c = c.in_tenths.ensures ∙ ap (λ (w : ℕ). shown_of w 10) c.bits.ensures
