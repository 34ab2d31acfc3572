use Rattle.std.specs.Prelude.{not}
use Rattle.curve.specs.Rows.{drawn_of}
use Rattle.curve.proofs.row.count_without_length.Given as goal

abbrev pub ghost-count : goal.ghost-count
ghost-count a = λ r. not (drawn_of a.view.answer.now r)
