use Rattle.std.proofs.Common.{ap, ◌∙◌, subst, arith}
use Rattle.arith.proofs.RunLaws.{leads_start, leads_more, leads_done}
use Rattle.findf.specs.Requires.{Safe}
use Rattle.findf.proofs.WalkLaws.{good_safe, steps_fine, search_fine, next_layer_fine, next_cusp_fine, filled_fine}
use Rattle.findf.specs.Findf.{walk_of, walked_of, answer}
use Rattle.findf.specs.Rows.{skip_of}
use Rattle.findf.specs.declared.skip.Skip.{Skip}
use Rattle.findf.specs.declared.walk.Label.{Label}
use Rattle.findf.proofs.Fills.{angled}
use Rattle.findf.proofs.Steps.{searches, next_layers, next_cusps, fills, ends}
use Rattle.findf.proofs.walk.walk_rows.Goals as goal

pub loop-w-init : goal.loop-w-init
unfolding walk_of
loop-w-init c = (omega arith, (leads_start _ _, c.ahead_of-ahead.ensures))

pub search-w-requires : goal.search-w-requires
search-w-requires c = (c.requires.0, (c.requires.1.0, good_safe c.loop-w.invariant.0))

pub loop-w-smaller-in-Search : goal.loop-w-smaller-in-Search
loop-w-smaller-in-Search c = (steps_fine c.in-Search.is c.loop-w.invariant.0 c.search-w.ensures (search_fine _ _ _ _ _)).falls

pub loop-w-preserved-in-Search : goal.loop-w-preserved-in-Search
loop-w-preserved-in-Search c =
    let f = steps_fine c.in-Search.is c.loop-w.invariant.0 c.search-w.ensures (search_fine _ _ _ _ _) in
    (f.good, (leads_more c.loop-w.invariant.1.0 (searches _ _ _ c.in-Search.is c.search-w.ensures) f.falls, c.loop-w.invariant.1.1))

pub next_layer-w-requires : goal.next_layer-w-requires
next_layer-w-requires c = good_safe c.loop-w.invariant.0

pub loop-w-smaller-in-NextLayer : goal.loop-w-smaller-in-NextLayer
loop-w-smaller-in-NextLayer c = (steps_fine c.in-NextLayer.is c.loop-w.invariant.0 c.next_layer-w.ensures (next_layer_fine _ _ _)).falls

pub loop-w-preserved-in-NextLayer : goal.loop-w-preserved-in-NextLayer
loop-w-preserved-in-NextLayer c =
    let f = steps_fine c.in-NextLayer.is c.loop-w.invariant.0 c.next_layer-w.ensures (next_layer_fine _ _ _) in
    (f.good, (leads_more c.loop-w.invariant.1.0 (next_layers _ _ _ c.in-NextLayer.is c.next_layer-w.ensures) f.falls, c.loop-w.invariant.1.1))

pub next_cusp-w-requires : goal.next_cusp-w-requires
next_cusp-w-requires c = good_safe c.loop-w.invariant.0

pub loop-w-smaller-in-NextCusp : goal.loop-w-smaller-in-NextCusp
loop-w-smaller-in-NextCusp c = (steps_fine c.in-NextCusp.is c.loop-w.invariant.0 c.next_cusp-w.ensures (next_cusp_fine _ _ _)).falls

pub loop-w-preserved-in-NextCusp : goal.loop-w-preserved-in-NextCusp
loop-w-preserved-in-NextCusp c =
    let f = steps_fine c.in-NextCusp.is c.loop-w.invariant.0 c.next_cusp-w.ensures (next_cusp_fine _ _ _) in
    (f.good, (leads_more c.loop-w.invariant.1.0 (next_cusps _ _ _ c.in-NextCusp.is c.next_cusp-w.ensures) f.falls, c.loop-w.invariant.1.1))

pub filling_of-q-requires : goal.filling_of-q-requires
filling_of-q-requires c = (c.requires.0, (c.requires.1.1, subst (λ (l : Label). Safe l c.loop-w.w) c.in-Fill.is (good_safe c.loop-w.invariant.0)))

pub correction_of-m-requires : goal.correction_of-m-requires
correction_of-m-requires c = (c.loop-w.invariant.1.1, angled _ _ _ _ _ _ (good_safe c.loop-w.invariant.0).ia_cap c.filling_of-q.ensures.0)

pub filled-w-requires : goal.filled-w-requires
filled-w-requires c = (c.filling_of-q.ensures.1.1.1, subst (λ (l : Label). Safe l c.loop-w.w) c.in-Fill.is (good_safe c.loop-w.invariant.0))

pub loop-w-smaller : goal.loop-w-smaller
loop-w-smaller c = (steps_fine c.in-Fill.is c.loop-w.invariant.0 c.filled-w.ensures (filled_fine _ _ _)).falls

pub loop-w-preserved : goal.loop-w-preserved
loop-w-preserved c =
    let f = steps_fine c.in-Fill.is c.loop-w.invariant.0 c.filled-w.ensures (filled_fine _ _ _) in
    let step = fills _ _ _ c.in-Fill.is c.filling_of-q.ensures c.correction_of-m.ensures c.row_of-t.ensures (c.skip_of-s.ensures ∙ ap (λ (s : Skip). skip_of s c.row_of-t.result c.loop-w.w.il) c.skip_in.ensures) c.far-d.ensures c.put_row.ensures c.filled-w.ensures in
    (f.good, (leads_more c.loop-w.invariant.1.0 step f.falls, c.ahead_of-ahead-in-Fill.ensures))

pub returns-in-Done : goal.returns-in-Done
unfolding walked_of
returns-in-Done c = ap answer (leads_done c.loop-w.invariant.1.0 (ends _ _ _ c.in-Done.is) (omega arith))
