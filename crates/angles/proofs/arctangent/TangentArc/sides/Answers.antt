use Rattle.std.proofs.Common.{ℕ, ◌+◌, ◌/◌, ◌^◌, ◌<◌, ◌≤◌, sym, subst, arith, lit≤}
use Rattle.angles.proofs.Near.{mh_under}
use Rattle.angles.specs.Arctangent.{atan_low, atan_high}
use Rattle.angles.proofs.arctangent.TangentArc.sides.Goals as goal
use Rattle.angles.proofs.arctangent.TangentArc.sides.Goals.{After-high_product-down, After-high_product-up}

up_le : (c : After-high_product-up) → c.high_product-up.result ≤ 2 ^ 62 + 2 ^ 56
up_le c =
    subst (λ (x : ℕ). x ≤ 2 ^ 62 + 2 ^ 56) (sym c.high_product-up.ensures) (mh_under c.args.t c.cos_parts-c.result.plus (2 ^ 63) (2 ^ 57 + 2 ^ 63) (2 ^ 62 + 2 ^ 56) c.requires.argument c.cos_parts-c.ensures.1.0 (lit≤ tt))

-- the margin is small
low_le : (p d m : ℕ) → p ≤ 2 ^ 63 → d ≤ 2 ^ 62 → m ≤ 64 → p / 2 ^ 24 + d + m ≤ 2 ^ 63
low_le p d m h k l = omega arith

high_le : (u m : ℕ) → u ≤ 2 ^ 62 + 2 ^ 56 → m ≤ 2 ^ 63 → u + m / 2 ^ 24 ≤ 2 ^ 63
high_le u m h k = omega arith

low_at : (c : After-high_product-up) (m : ℕ) → m ≤ 64 → c.sin_parts-s.result.plus / 2 ^ 24 + c.high_product-down.result + m ≤ 2 ^ 63
low_at c m h = low_le c.sin_parts-s.result.plus c.high_product-down.result m c.sin_parts-s.ensures.1.0 (subst (λ (x : ℕ). x ≤ 2 ^ 62) (sym c.high_product-down.ensures) (mh_under c.args.t c.cos_parts-c.result.minus (2 ^ 63) (2 ^ 63) (2 ^ 62) c.requires.argument c.cos_parts-c.ensures.1.1 (lit≤ tt))) h

high_at : (c : After-high_product-up) → c.high_product-up.result + c.sin_parts-s.result.minus / 2 ^ 24 ≤ 2 ^ 63
high_at c = high_le c.high_product-up.result c.sin_parts-s.result.minus (up_le c) c.sin_parts-s.ensures.1.1

first_fits : (a b : ℕ) → a + b + 0 ≤ 2 ^ 63 → a + b < 2 ^ 64
first_fits a b h = omega arith

fits : {a : ℕ} → a ≤ 2 ^ 63 → a < 2 ^ 64
fits h = omega arith

pub overflow_add-result : goal.overflow_add-result
overflow_add-result c = record { fits = first_fits (c.sin_parts-s.result.plus / 2 ^ 24) c.high_product-down.result (low_at (goal.at.overflow_add-result c).After-high_product-up 0 (lit≤ tt)) }

pub overflow_add-result-2 : goal.overflow_add-result-2
overflow_add-result-2 c = record { fits = fits (low_at (goal.at.overflow_add-result-2 c).After-high_product-up _ (lit≤ tt)) }

pub overflow_add-result-3 : goal.overflow_add-result-3
overflow_add-result-3 c = record { fits = fits (high_at (goal.at.overflow_add-result-3 c).After-high_product-up) }

pub returns : goal.returns
unfolding atan_low atan_high
returns c = record { low = cc; high = cc }
