use Rattle.curve.proofs.EachLaws.{extends_on}
use Rattle.plot.proofs.axes.each.Goals as goal

pub loop-i-preserved : goal.loop-i-preserved
loop-i-preserved g c = extends_on _ _ _ c.loop-i.invariant (c.requires.extends _ _ _ c.draw.ensures)
