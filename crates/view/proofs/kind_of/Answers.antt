use Rattle.std.proofs.Common.{◌∙◌}
use Rattle.view.proofs.ViewLaws.{kind_is}
use Rattle.view.proofs.kind_of.Goals as goal

pub returns : goal.returns
returns c = c.ok.ensures.value ∙ kind_is _ _ c.try_from.ensures
