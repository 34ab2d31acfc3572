use Rattle.esmod.specs.Esmod.{hop_of, thet_of, path_of}
use Rattle.esmod.proofs.hop.Goals as goal

pub returns-then-b-amind : goal.returns-then-b-amind
unfolding hop_of thet_of
returns-then-b-amind c = simp (← c.del-del.ensures, c.if-b-amind.true, c.empty.ensures)

pub returns : goal.returns
unfolding hop_of thet_of path_of
returns c = simp (← c.sin-sine.ensures, ← c.del-del.ensures, c.if-b-amind.false, ← c.cos.ensures)
