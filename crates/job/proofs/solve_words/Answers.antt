use mathlib.Core.Path.{ap, ◌∙◌}
use Rattle.job.specs.Solved.{solved_from}
use Rattle.job.proofs.Runs.{parts_are}
use Rattle.job.proofs.solve_words.Goals as goal

pub returns : goal.returns
returns c =
    c.solve.ensures
    ∙ ap (solved_from c.args.rfx.now)
    (parts_are _
    c.count_at-k.ensures
    c.count_at-nang.ensures
    c.number_at-freq.ensures
    c.number_at-amind.ensures
    c.number_at-ghop.ensures
    c.points_at-fi.ensures
    c.array_at.ensures
    c.array_at-2.ensures
    c.array_at-3.ensures
    c.array_at-4.ensures
    c.array_at-5.ensures)
