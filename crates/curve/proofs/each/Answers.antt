use Rattle.curve.proofs.EachLaws.{extends_on}
use Rattle.curve.proofs.each.Goals as goal

pub loop-r-preserved : goal.loop-r-preserved
loop-r-preserved g c = extends_on _ _ _ c.loop-r.invariant (c.requires.extends _ _ _ c.draw.ensures)
