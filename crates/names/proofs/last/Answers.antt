use Rattle.std.proofs.Common.{rules}
use Rattle.names.proofs.NamesLaws.{last_at, last_whole}
use Rattle.names.proofs.last.Goals as goal

pub returns-in-Some : goal.returns-in-Some
returns-in-Some c = last_at c.args.name.now c.in-Some.i (search rules) (search rules) (search rules)

pub returns-in-None : goal.returns-in-None
returns-in-None c = last_whole c.args.name.now (search rules)
