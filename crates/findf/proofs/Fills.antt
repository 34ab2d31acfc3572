-- For `filling_of`, `filled` and `walk_rows`: the numbers of `Safe`, and the row's angle, once it is known which row is filled.
use Rattle.std.proofs.Common.{◌≡◌, ℕ, ◌≤◌, List, ap, lt_irrefl, arith}
use lib.Ieee.{Float}
use Rattle.arith.specs.Floats.{◌⊗◌, D2R}
use Rattle.findf.specs.Walk.{back_of}
use Rattle.findf.specs.Requires.{takes, interpolates, follows}
use Rattle.findf.specs.Requires.{tabled_of, Angled}
use Rattle.findf.specs.Rows.{raw_of}
use Rattle.findf.specs.declared.walk.Walk.{Walk}
use Rattle.findf.specs.declared.walk.Label.TheVariants as L
use Rattle.findf.specs.declared.walk.Fill.{Fill}
use Rattle.findf.specs.declared.walk.Fill.TheVariants.{Exact, Interp, Cusp, NextCusp360}
use Rattle.findf.specs.declared.rows.Raw.{Raw}
use Rattle.findf.specs.declared.Tables.{Tables}

-- what a row gives back was taken
pub back_takes : (fill : Fill) → back_of fill ≤ takes (L.Fill fill)
back_takes Exact = omega arith
back_takes Interp = omega arith
back_takes Cusp = omega arith
back_takes NextCusp360 = omega arith

-- what the numbers of a fill are, once it is known
pub asks : {f g : Fill} → f ≡ g → (takes (L.Fill f) ≡ takes (L.Fill g)) × ((interpolates (L.Fill f) ≡ interpolates (L.Fill g)) × (follows (L.Fill f) ≡ follows (L.Fill g)))
asks e = (ap (λ (f : Fill). takes (L.Fill f)) e, (ap (λ (f : Fill). interpolates (L.Fill f)) e, ap (λ (f : Fill). follows (L.Fill f)) e))

-- a row that has a number in ANG has that angle
pub angled : (fill : Fill) (t : Tables) (delpen delfx : List Float) (jfhz : ℕ) (w : Walk) {a : Raw}
    → w.ia ≤ 40 → a ≡ raw_of t delpen delfx jfhz fill w → Angled (tabled_of fill w.ia) (a.del ⊗ D2R)
unfolding raw_of
angled Exact t delpen delfx jfhz w h a k = (h, ap (λ (b : Raw). b.del ⊗ D2R) a)
angled Interp t delpen delfx jfhz w h a k = (h, ap (λ (b : Raw). b.del ⊗ D2R) a)
angled Cusp t delpen delfx jfhz w h a k = absurd (lt_irrefl 0 k)
angled NextCusp360 t delpen delfx jfhz w h a k = absurd (lt_irrefl 0 k)
