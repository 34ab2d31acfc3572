use Rattle.std.proofs.Common.{rules}
use Rattle.es_file.proofs.FoundLaws.{places}
use Rattle.es_file.proofs.in_point.Goals as goal

pub returns : goal.returns
returns c = search (rules, places)
