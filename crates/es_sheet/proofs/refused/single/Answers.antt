use Rattle.std.proofs.Common.{rules, ◌≡◌, false, eqb}
use Rattle.std.proofs.lemmas.Bool.Decides.{nat_tests}
use Rattle.decimal.proofs.PageLaws.{added_as}
use Rattle.words.specs.Lists.{tab}
use Rattle.es_sheet.specs.Refusal.{single_text}
use Rattle.es_sheet.proofs.refused.single.Goals as goal

pub returns-in-21 : goal.returns-in-21
unfolding tab single_text
returns-in-21 c = added_as _ (rw c.in-21.is) c.filled.ensures

pub returns-in-22 : goal.returns-in-22
unfolding tab single_text
returns-in-22 c = added_as _ (rw c.in-22.is) c.filled-in-22.ensures

pub returns-in-23 : goal.returns-in-23
unfolding tab single_text
returns-in-23 c = added_as _ (rw c.in-23.is) c.filled-in-23.ensures

pub returns-in-24 : goal.returns-in-24
unfolding tab single_text
returns-in-24 c = added_as _ (rw c.in-24.is) c.filled-in-24.ensures

pub returns-in_default : goal.returns-in_default
unfolding tab single_text
returns-in_default c =
    let gcd : eqb c.args.i 21 ≡ false = search (rules, nat_tests) in
    let gcdkm : eqb c.args.i 22 ≡ false = search (rules, nat_tests) in
    let amind : eqb c.args.i 23 ≡ false = search (rules, nat_tests) in
    let freq : eqb c.args.i 24 ≡ false = search (rules, nat_tests) in
    added_as _ (rw (gcd, gcdkm, amind, freq)) c.filled-in_default.ensures
