use Rattle.std.proofs.Common.{◌≡◌}
use Rattle.curve.specs.Rows.{largest}
use Rattle.rays.specs.Rays.{high_of}
use Rattle.rays.proofs.order.highest.Given as goal

abbrev pub invariant-loop-s : goal.invariant-loop-s
invariant-loop-s l = l.top ≡ largest (high_of l.view.job.now l.view.answer.now) l.s
