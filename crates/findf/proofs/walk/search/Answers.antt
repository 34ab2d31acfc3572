use Rattle.std.proofs.Common.{le-leb}
use borrow.Author.Tests.{lt-leb}
use Rattle.findf.specs.Walk.{ANG, ang_of, search_of, search_by}
use Rattle.findf.proofs.walk.search.Goals as goal

pub returns-then-del : goal.returns-then-del
unfolding search_of search_by
returns-then-del c = simp (c.if-del.true, ← c.with_label.ensures)

pub returns-then-del-2 : goal.returns-then-del-2
unfolding search_of search_by
returns-then-del-2 c = simp (c.if-del.false, c.if-del-2.true, ← c.with_label-then-del-2.ensures)

pub returns-then-ia-e : goal.returns-then-ia-e
unfolding search_of search_by
returns-then-ia-e c = simp (c.if-del.false, c.if-del-2.false, le-leb _ _ c.if-ia-e.true, ← c.with_label-then-ia-e.ensures)

pub returns-then-del-ia : goal.returns-then-del-ia
unfolding search_of search_by ang_of ANG
returns-then-del-ia c = simp (c.if-del.false, c.if-del-2.false, lt-leb _ _ c.if-ia-e.false, c.if-del-ia.true, ← c.looked_at.ensures)

pub returns : goal.returns
unfolding search_of search_by ang_of ANG
returns c = simp (c.if-del.false, c.if-del-2.false, lt-leb _ _ c.if-ia-e.false, c.if-del-ia.false, ← c.looks.ensures, ← c.looked_at-2.ensures)
