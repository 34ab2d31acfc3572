use Rattle.std.proofs.Common.{map}
use Rattle.words.proofs.WordsLaws.{Written}
use Rattle.words.proofs.values.put_all.Given as goal

abbrev pub invariant-loop-i : goal.invariant-loop-i
invariant-loop-i g l = Written l.initial.out l.at (map g.W.Word.to_word l.xs) l.out l.i
