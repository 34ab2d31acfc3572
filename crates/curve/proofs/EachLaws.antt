-- For what draws one after the other on a page. Assumes nothing.
use Rattle.std.proofs.Common.{◌≡◌, List, ◌++◌, length, drop, sym, ap, ◌∙◌}
use Rattle.decimal.specs.Page.{Written, Used, used, more, Extends}
use Rattle.decimal.proofs.PageLaws.{more_more, extends_more}

pub extends_on : (p q r : Written) → Extends p q → Extends q r → Extends p r
extends_on p q r h k =
    let s : List _ = drop (length (used p).text) (used q).text in
    let t : List _ = drop (length (used q).text) (used r).text in
    let e : used r ≡ more (used p) (s ++ t) = sym k ∙ ap (λ (u : Used). more u t) (sym h) ∙ more_more (used p) s t in
    rw e (extends_more (used p) (s ++ t))
