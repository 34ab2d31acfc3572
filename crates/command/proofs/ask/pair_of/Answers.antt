use Rattle.std.proofs.Common.{rules, ◌≡◌, codes}
use Rattle.std.proofs.lemmas.Slice.Eq.{text_from_reads}
use Rattle.command.proofs.ask.pair_of.Goals as goal

pub returns-in_ok-said-in-freq : goal.returns-in_ok-said-in-freq
returns-in_ok-said-in-freq c =
    let name : c.args.name.now ≡ codes "freq" = search (rules, text_from_reads) in
    rw name (search rules)

pub returns-in_ok-said-in-hop : goal.returns-in_ok-said-in-hop
returns-in_ok-said-in-hop c =
    let name : c.args.name.now ≡ codes "hop" = search (rules, text_from_reads) in
    rw name (search rules)

pub returns-in_ok-said-in-min : goal.returns-in_ok-said-in-min
returns-in_ok-said-in-min c =
    let name : c.args.name.now ≡ codes "min" = search (rules, text_from_reads) in
    rw name (search rules)
