use Rattle.std.proofs.Common.{◌≡◌, ℕ, ◌+◌, ◌^◌, ◌≤◌, sym, subst}
use Rattle.angles.specs.Series.{square, power, cos_plus, cos_minus}
use Rattle.angles.proofs.Near.{square_le, power_le}
use Rattle.angles.proofs.CosNear.{cos_plus_le, cos_minus_le}
use Rattle.angles.proofs.series.cos_parts.Goals as goal
use Rattle.angles.proofs.series.cos_parts.Goals.{After-cos_minus}

are : (c : After-cos_minus) → (c.cos_plus.result ≡ cos_plus (power c.args.n)) × (c.cos_minus.result ≡ cos_minus (square c.args.n) (power c.args.n))
are c = (cc, cc)

pub returns : goal.returns
returns c =
    let n = c.args.n in
    let h = c.requires in
    (are (goal.at.returns c).After-cos_minus, (subst (λ (p : ℕ). p ≤ 2 ^ 57 + 2 ^ 63) (sym (are (goal.at.returns c).After-cos_minus).0) (cos_plus_le (power n) (power_le n h)), subst (λ (p : ℕ). p ≤ 2 ^ 63) (sym (are (goal.at.returns c).After-cos_minus).1) (cos_minus_le (square n) (power n) (square_le n h) (power_le n h))))
