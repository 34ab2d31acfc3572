use Rattle.std.proofs.Common.{get_or, pos, nat_abs, ap, ◌∙◌}
use Rattle.findf.specs.Look.{entry_of}
use Rattle.findf.proofs.Entry.{same, each}
use Rattle.findf.proofs.look.entry.Goals as goal

pub unsigned-requires : goal.unsigned-requires
unsigned-requires c =
    let p = c.requires in
    let e = each _ p.1 c.args.i p.0 in
    rw (same _ e) e

pub returns : goal.returns
unfolding entry_of
returns c =
    let p = c.requires in
    let i = c.args.i in
    c.unsigned.ensures ∙ ap nat_abs (same (get_or c.args.ifob.now i (pos 0)) (each _ p.1 i p.0))
