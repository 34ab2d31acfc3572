use Rattle.std.proofs.Common.{◌≡◌, drop}
use Rattle.parse.specs.Number.{read_of, read_from}
use Rattle.parse.proofs.text.thousandths.Given as goal

abbrev pub invariant-loop-b : goal.invariant-loop-b
invariant-loop-b l = read_of l.text ≡ read_from l.read (drop l.b-index l.text)
