use Rattle.findf.proofs.unless.Goals as goal

pub returns-then-dead : goal.returns-then-dead
returns-then-dead c = simp c.if-dead.true
