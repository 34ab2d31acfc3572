use Rattle.penang.proofs.angle.Goals as goal

pub returns-then-cos : goal.returns-then-cos
returns-then-cos c = (c.if-cos.true, cc)
