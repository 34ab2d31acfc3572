use mathlib.Core.Path.{sym, ◌∙◌}
use Rattle.limits.proofs.ChainLaws.{held}
use Rattle.sigdis.specs.Prbmuf.{prbmuf_of}
use Rattle.sigdis.proofs.prbmuf.Goals as goal

pub returns : goal.returns
unfolding prbmuf_of
returns c = rw (sym c.layer_within.ensures ∙ held _ _ c.check.ensures c.in_ok-check.was, c.chance.ensures)
