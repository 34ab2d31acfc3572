use Rattle.std.proofs.Common.{arith, ap, length}
use Rattle.decimal.specs.Page.{Extends}
use Rattle.decimal.proofs.PageLaws.{extends, extends_shortened}
use Rattle.sheet.proofs.head.title.Goals as goal

-- what is cut off stands behind the page as it was
pub returns : goal.returns
returns c =
    let whole : Extends c.args.page.now c.named.new.page = grind (arith, extends) in
    let cut = extends_shortened _ _ c.trimmed-end.result whole (omega (arith, ap length c.written-start.ensures)) in
    grind (arith, extends, cut)
