use Rattle.std.proofs.Common.{length, sym, ap, ◌∙◌}
use Rattle.limits.specs.Limits.{code_of}
use Rattle.page.proofs.Numbers.{number_status}
use Rattle.page.proofs.numbered.Goals as goal

pub invariant_of-result : goal.invariant_of-result
invariant_of-result c = record { in_help = number_status c.args.job.now (length c.args.answer.now) (sym (ap code_of c.in-Err.is) ∙ c.answer.ensures.0) }
