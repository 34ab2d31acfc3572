-- For `started`: the walk from what the calls of the start ensure is the walk of an accepted job.
use Rattle.std.proofs.Common.{◌≡◌, ℕ}
use lib.Ieee.{Float}
use Rattle.arith.specs.Floats.{f32, ◌⊗◌}
use Rattle.arith.specs.Numbers.{0·0}
use Rattle.penang.specs.Penang.{penang_of}
use Rattle.findf.specs.Findf.{walked_of, jfhz_of, unless_of, begun_by}
use Rattle.findf.specs.Inputs.{inputs_of}
use Rattle.findf.specs.Requires.{started_of}
use Rattle.penang.specs.declared.Penetration.{Penetration}
use Rattle.findf.specs.declared.Reflectrix.{Reflectrix}
use Rattle.findf.specs.declared.Tables.{Tables}

pub begins : (r : Reflectrix) (nang : ℕ) (freq amind second third : Float) (t : Tables)
    {j : ℕ} {p : Penetration} {dmaxkm dskpkm : Float} → j ≡ jfhz_of freq → p ≡ penang_of t.fvert t.htrue second freq
    → dmaxkm ≡ unless_of p.dead 0·0 → dskpkm ≡ unless_of p.dead (f32 0x461c_4000)
    → walked_of (inputs_of (record { nang = nang; freq = freq; amind = amind; jfhz = j; second = second; fc2 = third ⊗ third; delpen = p.delpen }) t) (begun_by r p.delpen dmaxkm dskpkm)
    ≡ started_of r nang freq amind second third t
unfolding started_of
begins r nang freq amind second third t j p m d = rw (j, m, d, p)
