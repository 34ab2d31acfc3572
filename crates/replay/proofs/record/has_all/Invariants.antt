use Rattle.replay.proofs.Comparing.{Passed}
use Rattle.replay.proofs.record.has_all.Given as goal

abbrev pub invariant-loop-i : goal.invariant-loop-i
invariant-loop-i g l = let w = g.W.Word in Passed w.to_word w.past l.xs l.r l.at l.i
