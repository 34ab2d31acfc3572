use Rattle.std.proofs.Common.{◌≡◌, ℕ, ◌^◌, ◌≤◌, sym, subst}
use Rattle.angles.specs.Series.{fixed, sin_plus, sin_minus}
use Rattle.angles.specs.Requires.{over}
use Rattle.angles.proofs.Near.{sin_plus_le, sin_minus_le}
use Rattle.angles.proofs.series.sin_parts.Goals as goal
use Rattle.angles.proofs.series.sin_parts.Goals.{After-sin_minus}

are : (c : After-sin_minus) → (c.sin_plus.result ≡ sin_plus c.args.n) × (c.sin_minus.result ≡ sin_minus c.args.n)
unfolding sin_plus sin_minus fixed over
are c = (cc, cc)

pub returns : goal.returns
returns c =
    (are (goal.at.returns c).After-sin_minus, (subst (λ (p : ℕ). p ≤ 2 ^ 63) (sym (are (goal.at.returns c).After-sin_minus).0) (sin_plus_le c.args.n c.requires), subst (λ (p : ℕ). p ≤ 2 ^ 63) (sym (are (goal.at.returns c).After-sin_minus).1) (sin_minus_le c.args.n c.requires)))
