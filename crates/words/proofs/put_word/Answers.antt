use Rattle.std.proofs.Common.{refl, sym, arith}
use Rattle.words.specs.Words.{bytes_of_word}
use Rattle.words.proofs.Rests.{rest_long, put_whole_word, put_cut_word}
use Rattle.words.proofs.ListLaws.{put_past}
use Rattle.words.proofs.put_word.Goals as goal

pub returns-in-Some : goal.returns-in-Some
unfolding bytes_of_word
returns-in-Some c = rw c.to_le_bytes-bytes.ensures (put_whole_word c.args.out.now (bytes_of_word c.args.w) c.args.at (omega (arith, c.in-Some.ensures.cases.enough, rest_long c.args.out.now c.args.at)))

pub returns-in-None : goal.returns-in-None
unfolding bytes_of_word
returns-in-None c = put_cut_word c.args.out.now (bytes_of_word c.args.w) _ c.args.at _ (omega (arith, c.if-at-out.false)) refl (omega (arith, c.in-None.ensures.cases)) (rw c.to_le_bytes-bytes.ensures at c.copy_from_slice.ensures.after)

pub returns-then-at-out : goal.returns-then-at-out
returns-then-at-out c = sym (put_past c.args.out.now c.args.at _ c.if-at-out.true)
