use Rattle.std.proofs.Common.{rules}
use Rattle.std.specs.Bool.{⊤}
use Rattle.std.proofs.lemmas.Iterator.{first_from_Range}
use Rattle.system.proofs.arguments.few.Goals as goal

pub returns : goal.returns
returns g c =
    let found = first_from_Range _ _ _ c.find.result (λ x. ⊤) (λ x. ⊤) c.find.ensures.ran (λ x q k. tt) (λ x q k. (search rules, tt)) in
    search (rules, found)
