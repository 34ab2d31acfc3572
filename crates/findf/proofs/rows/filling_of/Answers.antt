use Rattle.std.proofs.Common.{refl, arith}
use Rattle.findf.proofs.Fills.{asks}
use Rattle.findf.proofs.Entry.{entry_small}
use Rattle.findf.specs.Walk.{ANG, ang_of}
use Rattle.findf.specs.Rows.{raw_of}
use Rattle.findf.proofs.rows.filling_of.Goals as goal

pub slope-s-requires : goal.slope-s-requires
slope-s-requires c =
    let p = c.requires in
    let a = asks c.in-Interp.is in
    (entry_small _ _ c.entry.ensures p.0 (omega arith), (entry_small _ _ c.entry-in-Interp.ensures p.0 (omega arith), p.1.0))

pub returns-in-Exact : goal.returns-in-Exact
unfolding raw_of ang_of ANG
returns-in-Exact c = simp (c.in-Exact.is, ← c.raw_at.ensures) (refl, (refl, (c.into.ensures, (refl, refl))))

pub returns-in-Interp : goal.returns-in-Interp
unfolding raw_of ang_of ANG
returns-in-Interp c = simp (c.in-Interp.is, ← c.entry.ensures, ← c.entry-in-Interp.ensures, ← c.slope-s.ensures, ← c.raw_between.ensures) (refl, (refl, (c.into-in-Interp.ensures, (refl, refl))))

pub returns-in-Cusp : goal.returns-in-Cusp
unfolding raw_of
returns-in-Cusp c = simp (c.in-Cusp.is, ← c.raw_at-in-Cusp.ensures) (refl, (refl, (c.into-in-Cusp.ensures, (refl, refl))))

pub returns-in-NextCusp360 : goal.returns-in-NextCusp360
unfolding raw_of
returns-in-NextCusp360 c = simp (c.in-NextCusp360.is, ← c.raw_at-in-NextCusp360.ensures, ← c.next_mode.ensures) (refl, (refl, (c.into-in-NextCusp360.ensures, (refl, refl))))
