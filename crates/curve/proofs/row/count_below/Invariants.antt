use Rattle.curve.specs.Rows.{below_of}
use Rattle.curve.proofs.row.count_below.Given as goal

abbrev pub ghost-count : goal.ghost-count
ghost-count a = below_of a.view.answer.now
