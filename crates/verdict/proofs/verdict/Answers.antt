use Rattle.std.proofs.Common.{◌≡◌, arith}
use Rattle.view.specs.View.{slot_of, is_empty}
use Rattle.verdict.proofs.VerdictLaws.{no_pair}
use Rattle.verdict.proofs.verdict.Goals as goal
use Rattle.verdict.proofs.verdict.Goals.{After-eq}

first : (c : After-eq) → c.eq.result ≡ is_empty (slot_of c.args.view.job.now c.args.view.answer.now 0)
first c = grind arith

pub returns-then-eq : goal.returns-then-eq
returns-then-eq c = grind (arith, no_pair)
