use Rattle.curve.specs.Rows.{high_of}
use Rattle.curve.proofs.row.highest.Given as goal

abbrev pub ghost-largest : goal.ghost-largest
ghost-largest a = high_of a.view.answer.now
