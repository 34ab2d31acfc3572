use Rattle.std.specs.Prelude.{◌==◌}
use Rattle.curve.specs.Rows.{layer_of}
use Rattle.curve.specs.contracts.row.fn.count_of_layer.count as closure
use Rattle.curve.proofs.row.count_of_layer.Given as goal

abbrev pub ghost-count : goal.ghost-count
ghost-count a = λ r. layer_of a.view.answer.now r == (closure.captures a.is_so).layer
