use Rattle.curve.specs.Rows.{far_of}
use Rattle.curve.proofs.row.farthest.Given as goal

abbrev pub ghost-largest : goal.ghost-largest
ghost-largest a = far_of a.view.answer.now
