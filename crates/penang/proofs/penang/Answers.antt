use Rattle.penang.specs.Penang.{penang_of, f1_of}
use Rattle.penang.proofs.penang.Goals as goal

pub returns-then-frat_e : goal.returns-then-frat_e
unfolding penang_of f1_of
returns-then-frat_e c = simp (← c.frat-frat_e.ensures, c.if-frat_e.true)

pub returns-then-frat_f1 : goal.returns-then-frat_f1
unfolding penang_of f1_of
returns-then-frat_f1 c = simp (← c.frat-frat_e.ensures, c.if-frat_e.false, ← c.cusp-e.ensures, c.if-second.true, ← c.frat-frat_f1.ensures, c.if-frat_f1.true)

pub returns-then-second : goal.returns-then-second
unfolding penang_of f1_of
returns-then-second c = simp (← c.frat-frat_e.ensures, c.if-frat_e.false, ← c.cusp-e.ensures, c.if-second.true, ← c.frat-frat_f1.ensures, c.if-frat_f1.false, ← c.cusp.ensures, ← c.f2.ensures)

pub returns : goal.returns
unfolding penang_of f1_of
returns c = simp (← c.frat-frat_e.ensures, c.if-frat_e.false, ← c.cusp-e.ensures, c.if-second.false, ← c.f2-2.ensures)
