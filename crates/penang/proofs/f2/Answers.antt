use Rattle.penang.specs.Penang.{f2_of, top_of}
use Rattle.penang.proofs.f2.Goals as goal

pub returns-then-fvert-freq : goal.returns-then-fvert-freq
unfolding f2_of top_of
returns-then-fvert-freq c = simp c.if-fvert-freq.true

pub returns-in-Some : goal.returns-in-Some
unfolding f2_of top_of
returns-in-Some c = simp (c.if-fvert-freq.false, ← c.xm.ensures, ← c.xm-2.ensures, ← c.xm-3.ensures, ← c.cdel-cdel.ensures, c.in-Some.ensures.0, ← c.in-Some.ensures.1)

pub returns-in-None : goal.returns-in-None
unfolding f2_of top_of
returns-in-None c = simp (c.if-fvert-freq.false, ← c.xm.ensures, ← c.xm-2.ensures, ← c.xm-3.ensures, ← c.cdel-cdel.ensures, c.in-None.ensures)
