use Rattle.decimal.specs.Page.{Extends}
use Rattle.drawing.proofs.legend.layers.Given as goal

abbrev pub invariant-loop-layer : goal.invariant-loop-layer
invariant-loop-layer l = Extends l.fn.page l.page
