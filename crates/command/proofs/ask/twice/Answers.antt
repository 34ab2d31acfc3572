use Rattle.std.proofs.Common.{refl}
use Rattle.command.proofs.ask.twice.Goals as goal

pub returns-in-Some-Some : goal.returns-in-Some-Some
returns-in-Some-Some c = simp (c.in-Some-Some.is-0, c.in-Some-Some.is-1) refl
