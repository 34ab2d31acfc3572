use Rattle.std.proofs.Common.{ℕ, sym, ◌∙◌, subst}
use Rattle.findf.specs.Requires.{Angled}
use Rattle.findf.proofs.correction.rcosd_of.Goals as goal

pub returns-then-tabled-ahead : goal.returns-then-tabled-ahead
returns-then-tabled-ahead c =
    let same = sym c.tabled.ensures ∙ c.if-tabled-ahead.true in
    let at = (subst (λ (n : ℕ). Angled n c.args.del) same c.requires.1 c.requires.0.0).1 in
    c.requires.0.1 ∙ rw at
