use Rattle.std.proofs.Common.{arith}
use Rattle.decimal.specs.Page.{Extends}
use Rattle.decimal.proofs.PageLaws.{extends}
use Rattle.curve.proofs.EachLaws.{extends_on}
use Rattle.plot.proofs.lines.words.Goals as goal

-- in two halves: nine steps are too many for one search
pub returns : goal.returns
returns c =
    let first : Extends c.args.page.now c.text-4.new.self = grind (arith, extends) in
    let second : Extends c.text-4.new.self c.text-7.new.self = grind (arith, extends) in
    extends_on _ _ _ first second
