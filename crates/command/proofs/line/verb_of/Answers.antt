use Rattle.std.proofs.Common.{rules, ◌≡◌, codes, refl, arith}
use Rattle.std.proofs.lemmas.Slice.Eq.{text_from_reads}
use Rattle.command.proofs.line.verb_of.Goals as goal

pub returns-in-show : goal.returns-in-show
returns-in-show c =
    let word : c.args.word.now ≡ codes "show" = text_from_reads c.args.word.now (codes "show") (omega arith) (search rules) in
    rw word refl

pub returns-in-check : goal.returns-in-check
returns-in-check c =
    let word : c.args.word.now ≡ codes "check" = search (rules, text_from_reads) in
    rw word refl

pub returns-in-help-3 : goal.returns-in-help-3
returns-in-help-3 c =
    let word : c.args.word.now ≡ codes "--help" = search (rules, text_from_reads) in
    rw word refl
