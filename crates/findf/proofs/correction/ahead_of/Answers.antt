use Rattle.std.proofs.Common.{refl, add-sub_cancel, rules}
use Rattle.findf.specs.Walk.{ANG, ang_of}
use Rattle.findf.proofs.correction.ahead_of.Goals as goal

pub rcosd-requires : goal.rcosd-requires
unfolding ang_of ANG
rcosd-requires c _ = (search rules, simp (add-sub_cancel c.place_after-i.result 1) refl)

pub returns : goal.returns
unfolding ang_of ANG
returns c = (search rules, simp (add-sub_cancel c.place_after-i.result 1) c.rcosd.ensures)
