use Rattle.std.proofs.Common.{ℕ, ◌^◌, ◌≤◌, T, pos, le→leb}
use lib.Ieee.{binary32, in_float}
use Rattle.angles.specs.Grid.{in_steps}
use Rattle.angles.proofs.Literals.{lit_22}
use Rattle.angles.proofs.grid.in_steps.Goals as goal

held : (k : ℕ) → k ≤ 2 ^ 24 → T (in_float binary32 (pos k))
unfolding in_float
held k h = le→leb k (2 ^ 24) h

pub int_to_float-r : goal.int_to_float-r
int_to_float-r c = held c.args.k c.requires

pub returns-then-neg : goal.returns-then-neg
unfolding in_steps
returns-then-neg c = rw (lit_22, c.if-neg.true)

pub returns-else-neg : goal.returns-else-neg
unfolding in_steps
returns-else-neg c = rw (lit_22, c.if-neg.false)
