use Rattle.std.proofs.Common.{ℕ, ap, ◌∙◌}
use Rattle.curve.specs.Rows.{shown_of}
use Rattle.rays.specs.Rays.{angle_of}
use Rattle.rays.proofs.order.Slot.angle.Goals as goal

pub returns : goal.returns
unfolding angle_of
returns c = c.in_thousandths.ensures ∙ ap (λ (w : ℕ). shown_of w 1000) c.word.ensures
