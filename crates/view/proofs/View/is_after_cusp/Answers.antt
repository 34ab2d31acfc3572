use Rattle.std.proofs.Common.{ap, ◌∙◌}
use Rattle.view.specs.View.{is_after_cusp}
use Rattle.view.proofs.ViewLaws.{is_after_cusp_by}
use Rattle.view.proofs.View.is_after_cusp.Goals as goal

pub returns : goal.returns
returns c = c.eq.ensures ∙ is_after_cusp_by c.row_kind.result ∙ ap is_after_cusp c.row_kind.ensures
