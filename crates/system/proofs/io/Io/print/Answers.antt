use Rattle.system.proofs.io.Io.print.Goals as goal

pub returns-then-is_ok : goal.returns-then-is_ok
returns-then-is_ok g c = tt
