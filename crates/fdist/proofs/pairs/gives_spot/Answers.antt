use mathlib.Core.Path.{sym, ap, ◌∙◌}
use Rattle.fdist.specs.Pairs.{is_spot}
use Rattle.fdist.proofs.pairs.gives_spot.Goals as goal

pub returns-in-Nothing : goal.returns-in-Nothing
returns-in-Nothing c = ap is_spot (sym c.in-Nothing.is ∙ c.try_pair-pair.ensures)

pub returns-in-Row : goal.returns-in-Row
returns-in-Row c = ap is_spot (sym c.in-Row.is ∙ c.try_pair-pair.ensures)

pub returns-in-Spot : goal.returns-in-Spot
returns-in-Spot c = ap is_spot (sym c.in-Spot.is ∙ c.try_pair-pair.ensures)
