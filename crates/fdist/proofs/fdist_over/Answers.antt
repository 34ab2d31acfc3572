use Rattle.std.proofs.Common.{sym, ap, ◌∙◌}
use Rattle.std.proofs.lemmas.Result.{err_from_is_err_and}
use Rattle.limits.specs.Limits.{code_of}
use Rattle.limits.proofs.ChainLaws.{accepted, not_accepted}
use Rattle.fdist.specs.Fdist.{search_by, fdist_by}
use Rattle.fdist.proofs.Checks.{refused_by_lem}
use Rattle.fdist.proofs.fdist_over.Goals as goal

pub returns-in_err-numbers_of : goal.returns-in_err-numbers_of
unfolding fdist_by
returns-in_err-numbers_of c m =
    let e = c.numbers_of.ensures in
    let p = err_from_is_err_and c.from_residual.result c.from_residual.ensures.1 in
    rw (p.1, p.2, sym (ap code_of c.in_err-numbers_of.was) ∙ e) (refused_by_lem _ _ _ (not_accepted e c.in_err-numbers_of.was))

pub returns-then-dhopkm-rfx : goal.returns-then-dhopkm-rfx
unfolding fdist_by search_by
returns-then-dhopkm-rfx c m = rw (accepted c.numbers_of.ensures c.in_ok-numbers_of.was, c.if-dhopkm-rfx.true) c.none.ensures

pub returns : goal.returns
unfolding fdist_by search_by
returns c m = rw (accepted c.numbers_of.ensures c.in_ok-numbers_of.was, c.if-dhopkm-rfx.false) c.search.ensures
