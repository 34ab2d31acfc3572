use Rattle.std.proofs.Common.{◌≡◌, ℕ, ◌+◌, ◌-◌, ◌*◌, ◌/◌, ◌^◌, ◌<◌, ◌≤◌, sym, refl, subst, inl, zero-le, arith, lit≤}
use Rattle.angles.proofs.Near.{mh_under}
use Rattle.angles.specs.Requires.{Steep}
use Rattle.angles.specs.Arctangent.{atan_top, atan_low, atan_high}
use Rattle.angles.proofs.ArctangentGuess.{slack, steep}
use Rattle.angles.proofs.arctangent.slack.Goals as goal
use Rattle.angles.proofs.arctangent.slack.Goals.{After-high_product-fall, After-saturating_sub-rise}

rise_le : (c : After-saturating_sub-rise) → c.saturating_sub-rise.result ≤ 6586998
rise_le c = less c.args.j c.saturating_sub-rise.result c.saturating_sub-rise.ensures
  where
    less : (j r : ℕ) → r ≡ 6586998 - j → r ≤ 6586998
    less j r e = omega arith

fall_le : (c : After-high_product-fall) → c.high_product-fall.result ≤ 2 ^ 46
fall_le c =
    subst (λ (x : ℕ). x ≤ 2 ^ 46) (sym c.high_product-fall.ensures) (mh_under c.args.t (c.saturating_sub.result * 16777216) (2 ^ 63) (2 ^ 47) (2 ^ 46) c.requires (small c.args.j c.saturating_sub.result c.if-j-gt6588396.false c.saturating_sub.ensures) (lit≤ tt))
  where
    small : (j i : ℕ) → j ≤ 6588396 → i ≡ j - 1 → i * 16777216 ≤ 2 ^ 47
    small j i h e = omega arith

pub overflow_add-rise : goal.overflow_add-rise
overflow_add-rise c =
    record { fits = room c.saturating_sub-rise.result c.high_product-fall.result (rise_le (goal.at.overflow_add-rise c).After-saturating_sub-rise) (fall_le (goal.at.overflow_add-rise c).After-high_product-fall) }
  where
    room : (r f : ℕ) → r ≤ 6586998 → f ≤ 2 ^ 46 → r + f < 2 ^ 64
    room r f h k = omega arith

pub overflow_mul-rise : goal.overflow_mul-rise
overflow_mul-rise c =
    record { fits = room c.saturating_sub-rise.result c.high_product-fall.result (rise_le (goal.at.overflow_mul-rise c).After-saturating_sub-rise) (fall_le (goal.at.overflow_mul-rise c).After-high_product-fall) }
  where
    room : (r f : ℕ) → r ≤ 6586998 → f ≤ 2 ^ 46 → 5120 * (r + f) < 2 ^ 64
    room r f h k = omega arith

pub returns-then-j-gt6588396 : goal.returns-then-j-gt6588396
returns-then-j-gt6588396 c = (zero-le, inl refl)

pub returns-else-j-gt6588396 : goal.returns-else-j-gt6588396
returns-else-j-gt6588396 c =
    let a = c.args in
    let e : c.saturating_sub-else-j-gt6588396.result ≡ slack a.t a.j = cc in (
      small c.saturating_sub-rise.result c.high_product-fall.result c.saturating_sub-else-j-gt6588396.result (rise_le (goal.at.returns-else-j-gt6588396 c).After-saturating_sub-rise) (fall_le (goal.at.returns-else-j-gt6588396 c).After-high_product-fall) c.saturating_sub-else-j-gt6588396.ensures,
      subst (λ (q : ℕ). Steep (atan_low a.t) (atan_high a.t) atan_top q a.j) (sym e) (steep a.t a.j c.requires (within a.j c.if-j-gt6588396.false)),
    )
  where
    small : (r f q : ℕ) → r ≤ 6586998 → f ≤ 2 ^ 46 → q ≡ 5120 * (r + f) / 16777216 - 64 → q ≤ 2 ^ 60
    small r f q h k e = omega arith

    within : (j : ℕ) → j ≤ 6588396 → j + 1 ≤ atan_top
    within j h = omega arith
