use mathlib.Core.Path.{sym, ◌∙◌}
use Rattle.esmod.specs.Esmod.{ihsrt_of}
use Rattle.esmod.proofs.EsmodLaws.{first_hop, cut_1, cut_2, cut_3}
use Rattle.esmod.proofs.HopsLaws.{hops_none, hops_two, hops_one}
use Rattle.esmod.proofs.hops.Goals as goal

pub returns-then-first : goal.returns-then-first
unfolding ihsrt_of
returns-then-first c = c.no_hops.ensures ∙ sym (hops_none _ _ _ _ (cut_3 _ (rw (← c.sdmax.ensures) c.if-first.true)))

pub returns-then-first-2 : goal.returns-then-first-2
unfolding ihsrt_of
returns-then-first-2 c =
    let s = c.sdmax.ensures in
    rw (c.empty.ensures, c.hop-two.ensures) (sym (hops_two _ _ _ _ (cut_2 _ (rw (← s) c.if-first-2.true) (rw (← s) c.if-first.false))))

pub returns : goal.returns
unfolding ihsrt_of
returns c =
    let s = c.sdmax.ensures in
    let p = c.requires in
    rw (c.hop.ensures, c.hop-two.ensures) (sym (hops_one _ _ _ _ (cut_1 _ (first_hop _ _ p.0 p.1) (rw (← s) c.if-first-2.false))))
