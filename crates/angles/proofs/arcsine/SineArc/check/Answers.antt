use Rattle.angles.proofs.ArcsineLaws.{asin_steep}
use Rattle.angles.proofs.arcsine.SineArc.check.Goals as goal

pub returns-else-j-gt6586998-clause-steep : goal.returns-else-j-gt6586998-clause-steep
returns-else-j-gt6586998-clause-steep c = asin_steep c.args.t c.args.j c.if-j-gt6586998.false
