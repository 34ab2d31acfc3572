use mathlib.Core.Path.{subst}
use native.Mathlib.Omega.{arith}
use Rattle.fdist.specs.Requires.{Within}
use Rattle.fdist.proofs.pairs.next_pair.Goals as goal

pub overflow_add-result-in-Row : goal.overflow_add-result-in-Row
overflow_add-result-in-Row c = omega (arith, subst (Within _) c.in-Row.is c.requires.1)

pub returns-in-Nothing : goal.returns-in-Nothing
returns-in-Nothing c = simp c.in-Nothing.is

pub returns-in-Row : goal.returns-in-Row
returns-in-Row c = simp c.in-Row.is

pub returns-in-Spot : goal.returns-in-Spot
returns-in-Spot c = simp c.in-Spot.is
