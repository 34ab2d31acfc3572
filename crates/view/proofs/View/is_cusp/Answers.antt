use Rattle.std.proofs.Common.{ap, ◌∙◌}
use Rattle.view.specs.View.{is_cusp}
use Rattle.view.proofs.ViewLaws.{is_cusp_by}
use Rattle.view.proofs.View.is_cusp.Goals as goal

pub returns : goal.returns
returns c = c.eq.ensures ∙ is_cusp_by c.row_kind.result ∙ ap is_cusp c.row_kind.ensures
