use Rattle.std.proofs.Common.{◌≡◌, take, fold}
use Rattle.command.specs.Ask.{put_of}
use Rattle.tool.proofs.ask.put_all.Given as goal

abbrev pub invariant-loop-pair : goal.invariant-loop-pair
invariant-loop-pair l = l.job ≡ fold (λ bytes pair. put_of pair bytes) l.initial.job (take l.pair-index l.pairs)
