use Rattle.std.proofs.Common.{rules}
use Rattle.decimal.proofs.FieldLaws.{run_to, run_out}
use Rattle.decimal.proofs.fields.plain.Goals as goal

pub returns-in-Some : goal.returns-in-Some
returns-in-Some c = run_to c.args.t.now c.in-Some.i c.requires (search rules) (search rules)

pub returns-in-None : goal.returns-in-None
returns-in-None c = run_out c.args.t.now c.requires (search rules)
