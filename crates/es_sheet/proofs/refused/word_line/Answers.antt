use Rattle.std.proofs.Common.{rules, ◌≡◌, true, false, eqb, ltb}
use Rattle.std.proofs.lemmas.Bool.Decides.{nat_tests}
use Rattle.decimal.proofs.PageLaws.{added_as}
use Rattle.words.specs.Lists.{tab}
use Rattle.es_sheet.specs.Refusal.{word_text}
use Rattle.es_sheet.proofs.refused.word_line.Goals as goal

pub returns-in-0 : goal.returns-in-0
unfolding tab word_text
returns-in-0 c = added_as _ (rw c.in-0.is) c.filled.ensures

pub returns-in-1-to-15 : goal.returns-in-1-to-15
unfolding tab word_text
returns-in-1-to-15 c =
    let km : eqb c.args.i 0 ≡ false = search (rules, nat_tests) in
    let fs : ltb c.args.i 16 ≡ true = search (rules, nat_tests) in
    added_as _ (rw (km, fs)) c.filled-in-1-to-15.ensures

pub returns-in-16-to-20 : goal.returns-in-16-to-20
unfolding tab word_text
returns-in-16-to-20 c =
    let km : eqb c.args.i 0 ≡ false = search (rules, nat_tests) in
    let fs : ltb c.args.i 16 ≡ false = search (rules, nat_tests) in
    let hs : ltb c.args.i 21 ≡ true = search (rules, nat_tests) in
    added_as _ (rw (km, fs, hs)) c.filled-in-16-to-20.ensures

pub returns-in_default : goal.returns-in_default
unfolding tab word_text
returns-in_default c =
    let km : eqb c.args.i 0 ≡ false = search (rules, nat_tests) in
    let fs : ltb c.args.i 16 ≡ false = search (rules, nat_tests) in
    let hs : ltb c.args.i 21 ≡ false = search (rules, nat_tests) in
    added_as _ (rw (km, fs, hs)) c.single.ensures
