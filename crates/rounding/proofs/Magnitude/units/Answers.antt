use borrow.Author.Tests.{lt-ltb, le-ltb}
use Prim.Native.Nat.{ℕ, ◌+◌, ◌-◌, ◌*◌, ◌/◌, ◌%◌, ◌^◌, ◌≤◌, ◌<◌}
use mathlib.Core.Path.{◌≡◌, sym, ap, ◌∙◌}
use mathlib.Core.Bool.{Bool, cond}
use native.Mathlib.Omega.{arith}
use native.Mathlib.Nat.{mod-eq_of_lt, div-eq_of_lt, mul-le-mul, lt_of_le_of_lt, lt_of_lt_of_le, one-mul}
use lib.Pow.{pow_mono, pow_pos, shl_exact}
use lib.Dec.{ltb}
use Rattle.rounding.specs.Decimals.{nearest}
use Rattle.rounding.proofs.Magnitude.units.Goals as goal

small : (m t : ℕ) → m < 2 ^ 24 → t < 2 ^ 10 → m * t < 2 ^ 34
small m t h k = lt_of_le_of_lt (mul-le-mul {n₁ = m} {m₁ = t} {n₂ = 16777215} {m₂ = 1023} (omega arith) (omega arith)) (omega arith)

-- the shifted 1
bit : (e : ℕ) → 100 ≤ e → 1 * 2 ^ (150 - e) % 18446744073709551616 ≡ 2 ^ (150 - e)
bit e h = shl_exact 1 (150 - e) 64 (omega arith) (omega arith) ∙ one-mul (2 ^ (150 - e))

-- far below a half
none : (n p : ℕ) → n + n < p → nearest n p ≡ 0
none n p h =
    ap (λ (r : ℕ). cond (ltb p (2 * r + (n / p) % 2)) (n / p + 1) (n / p)) (mod-eq_of_lt {n = n} {m = p} (omega arith))
    ∙ ap (λ (q : ℕ). cond (ltb p (2 * n + q % 2)) (q + 1) q) (div-eq_of_lt {n = n} {m = p} (omega arith))
    ∙ ap (λ (b : Bool). cond b (0 + 1) 0) (le-ltb p (2 * n + 0 % 2) (omega arith))

pub returns-then-self-lt100 : goal.returns-then-self-lt100
returns-then-self-lt100 c =
    let a = c.args in
    let m = a.self.significand in
    let e = a.self.field in
    let n = small m a.t a.self.significand_bound c.requires in
    rw (lt-ltb e 150 (omega arith)) (sym (none (m * a.t) (2 ^ (150 - e)) (lt_of_lt_of_le (omega (arith, n)) (pow_mono {i = 51} {j = 150 - e} (omega arith)))))

pub returns-then-self-lt150 : goal.returns-then-self-lt150
returns-then-self-lt150 c =
    let a = c.args in
    let shifted = bit a.self.field c.if-self-lt100.false in
    rw (lt-ltb a.self.field 150 c.if-self-lt150.true) (c.nearest.ensures.value (rw shifted (pow_pos (150 - a.self.field))) ∙ ap (nearest (a.self.significand * a.t)) shifted)

pub returns-else-self-lt150 : goal.returns-else-self-lt150
returns-else-self-lt150 c =
    let a = c.args in
    let e = a.self.field in
    rw (le-ltb e 150 c.if-self-lt150.false) (shl_exact 34 (e - 150) 64 (small a.self.significand a.t a.self.significand_bound c.requires) (omega arith))
