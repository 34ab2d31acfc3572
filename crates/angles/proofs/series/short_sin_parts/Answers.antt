use Rattle.std.proofs.Common.{◌≡◌, ℕ, sym, subst, le_trans, lit≤}
use Rattle.angles.specs.Series.{sin_plus, sin_minus}
use Rattle.angles.proofs.Near.{sin_plus_le, sin_minus_le}
use Rattle.angles.proofs.Short.{short_plus, short_minus, short_plus_lem, short_minus_lem}
use Rattle.angles.specs.Requires.{Close, short_by}
use Rattle.angles.proofs.series.short_sin_parts.Goals as goal
use Rattle.angles.proofs.series.short_sin_parts.Goals.{After-sin_minus}

are : (c : After-sin_minus) → (c.sin_plus.result ≡ short_plus c.args.n) × (c.sin_minus.result ≡ short_minus c.args.n)
are c = (cc, cc)

pub returns : goal.returns
returns c =
    let n = c.args.n in
    let h = c.requires in
    let p = subst (λ (x : ℕ). Close x (sin_plus n) short_by) (sym (are (goal.at.returns c).After-sin_minus).0) (short_plus_lem n h) in
    let m = subst (λ (x : ℕ). Close x (sin_minus n) short_by) (sym (are (goal.at.returns c).After-sin_minus).1) (short_minus_lem n h) in
    let l = le_trans h (lit≤ tt) in
    ((p, m), (le_trans p.0 (sin_plus_le n l), le_trans m.0 (sin_minus_le n l)))
