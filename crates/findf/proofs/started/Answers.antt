use Rattle.std.proofs.Common.{◌∙◌, arith}
use Rattle.findf.proofs.Begins.{begins}
use Rattle.findf.proofs.started.Goals as goal

pub walk_rows-requires : goal.walk_rows-requires
walk_rows-requires c =
    (c.requires.0, (c.requires.1.0, omega (arith, c.jfhz.ensures.1)))

pub returns : goal.returns
returns c =
    c.walk_rows.ensures ∙ begins _ _ _ _ _ _ _ c.jfhz.ensures.0 c.penang-p.ensures c.unless-rfx.ensures c.unless-rfx-2.ensures
