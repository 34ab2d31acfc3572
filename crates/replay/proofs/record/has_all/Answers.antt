use Rattle.std.proofs.Common.{◌≡◌, get_or, ap, ◌∙◌}
use Rattle.std.proofs.lemmas.List.{get_or_default}
use Rattle.replay.proofs.Comparing.{none, more, differ, agree}
use Rattle.replay.proofs.record.has_all.Goals as goal

pub loop-i-init : goal.loop-i-init
loop-i-init g c = none _ _ _ _ _

pub returns-then-to_word-word : goal.returns-then-to_word-word
returns-then-to_word-word g c =
    let w = g.W.Word in
    differ c.loop-i.invariant c.loop-i-test.true
    (c.to_word.ensures ∙ ap w.to_word (c.index-xs-i.is ∙ get_or_default c.args.xs.now c.loop-i.i _ w.past c.loop-i-test.true))
    c.word.ensures c.if-to_word-word.true

pub loop-i-preserved : goal.loop-i-preserved
loop-i-preserved g c =
    let w = g.W.Word in
    more c.loop-i.invariant c.loop-i-test.true
    (c.to_word.ensures ∙ ap w.to_word (c.index-xs-i.is ∙ get_or_default c.args.xs.now c.loop-i.i _ w.past c.loop-i-test.true))
    c.word.ensures c.if-to_word-word.false

pub returns : goal.returns
returns g c = agree c.loop-i.invariant c.loop-i-test.false
