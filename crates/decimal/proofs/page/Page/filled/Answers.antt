use Rattle.std.proofs.Common.{refl, ◌∙◌, arith}
use Rattle.decimal.proofs.PageLaws.{pages}
use Rattle.decimal.proofs.FieldLaws.{filled_field, run_on}
use Rattle.decimal.proofs.page.Page.filled.Goals as goal

pub loop-rest-init : goal.loop-rest-init
loop-rest-init c = refl

pub loop-rest-preserved-in-64-1 : goal.loop-rest-preserved-in-64-1
loop-rest-preserved-in-64-1 c = grind (arith, pages, filled_field)

pub loop-rest-preserved : goal.loop-rest-preserved
loop-rest-preserved c = run_on c.loop-rest.self c.args.v.now c.loop-rest.rest.now c.plain-n.result c.plain-n.ensures refl refl c.text.ensures ∙ c.loop-rest.invariant
