use Rattle.std.proofs.Common.{◌∙◌, ap, refl, rules, tests, arith}
use Rattle.std.specs.List.{range_with_len}
use Rattle.std.proofs.lemmas.Iterator.{YieldsList-from_range}
use Rattle.std.proofs.lemmas.Iterator.Consumers.{YieldsList-at, YieldsList-from_filter, count_from_yields_List}
use Rattle.std.proofs.lemmas.List.Sums.{length-filter}
use Rattle.view.specs.View.{rays_before, ray_at}
use Rattle.view.proofs.ViewLaws.{rays_counted}
use Rattle.view.proofs.View.rays_before.Goals as goal

pub returns-clause-value : goal.returns-clause-value
returns-clause-value c =
    let is_ray = ray_at c.args.self.job.now c.args.self.answer.now in
    let slots = YieldsList-at c.filter.ensures.source (YieldsList-from_range 0 c.min.result c.min.result refl (omega arith)) in
    count_from_yields_List c.filter.result _ c.count.ensures.ran (YieldsList-from_filter _ is_ray slots c.filter.ensures.closure (λ x b q k. search (rules, tests)))
    ∙ length-filter is_ray (range_with_len 0 c.min.result)
    ∙ rays_counted _ _ _
    ∙ ap (rays_before _ _) c.min.ensures
