use Prim.Native.Nat.{ℕ, ◌+◌, ◌-◌, ◌*◌, ◌^◌, ◌≤◌, ◌<◌, min}
use mathlib.Core.Path.{◌≡◌, sym, ap, ◌∙◌}
use mathlib.Core.Bool.{Bool, cond}
use native.Mathlib.Omega.{arith}
use native.Mathlib.Nat.{mul-le-mul}
use lib.Pow.{pow_mono}
use borrow.Author.Rules.{rules}
use borrow.Author.Tests.{le-ltb, ne_eqb}
use Rattle.rounding.specs.Decimals.{nearest, units, fraction_of, exponent_of}
use Rattle.rounding.proofs.sized.sized.Goals as goal

large : (m e t most : ℕ) → 8388608 ≤ m → 176 ≤ e → 0 < t → most < 4294967296 → most ≡ min (units m e t) most
large m e t most h k p q =
    let far : 8388608 * 67108864 ≤ m * t * 2 ^ (e - 150) = mul-le-mul {n₁ = 8388608} {m₁ = 67108864} (mul-le-mul {n₁ = 8388608} {m₁ = 1} h p) (pow_mono {i = 26} {j = e - 150} (omega arith)) in
    let least : most ≡ min (m * t * 2 ^ (e - 150)) most = omega arith in
    least ∙ sym (ap (λ (b : Bool). min (cond b (nearest (m * t) (2 ^ (150 - e))) (m * t * 2 ^ (e - 150))) most) (le-ltb e 150 (omega arith)))

pub returns-in-None : goal.returns-in-None
returns-in-None c =
    let a = c.args in
    let e = exponent_of a.w in
    rw (ne_eqb e 0 (λ z. omega (arith, c.in-None.ensures.near)))
    (large (fraction_of a.w + 2 ^ 23) e a.t a.most (omega arith) c.in-None.ensures.near c.requires.t_nonzero (search rules))
