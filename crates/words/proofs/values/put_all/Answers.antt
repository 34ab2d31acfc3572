use Rattle.std.proofs.Common.{sym, ap, ◌∙◌, rules}
use Rattle.std.proofs.lemmas.List.{length-map, get_or-map}
use Rattle.words.proofs.WordsLaws.{written_none, written_more, written_all}
use Rattle.words.proofs.Rests.{put_place}
use Rattle.words.proofs.values.put_all.Goals as goal

pub loop-i-init : goal.loop-i-init
loop-i-init g c = written_none _ _ _

pub loop-i-preserved : goal.loop-i-preserved
loop-i-preserved g c =
    let to = g.W.Word.to_word in
    let xs = c.args.xs.now in
    let i = c.loop-i.i in
    let x = c.index-xs-i.result in
    written_more 0 c.loop-i.invariant (rw length-map c.loop-i-test.true)
    (c.to_word.ensures ∙ ap to c.index-xs-i.is ∙ sym (get_or-map to xs i x 0 c.loop-i-test.true))
    (c.put_word.ensures ∙ rw c.place.ensures (put_place _ _ _ (search rules)))

pub returns : goal.returns
returns g c = written_all c.loop-i.invariant (rw length-map c.loop-i-test.false)
