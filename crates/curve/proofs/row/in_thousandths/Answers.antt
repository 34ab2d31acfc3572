use borrow.Author.Tests.{lt-ltb, le-ltb}
use Rattle.curve.proofs.row.in_thousandths.Goals as goal

pub returns-then-w-lt2147483648 : goal.returns-then-w-lt2147483648
returns-then-w-lt2147483648 c = simp (lt-ltb _ _ c.if-w-lt2147483648.true, c.thousandths_of.ensures)

pub returns : goal.returns
returns c = simp (le-ltb _ _ c.if-w-lt2147483648.false)
