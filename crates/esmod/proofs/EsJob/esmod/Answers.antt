use mathlib.Core.Path.{ap, ◌∙◌}
use Rattle.limits.proofs.ChainLaws.{accepted, not_accepted}
use Rattle.esmod.specs.Esmod.{no_hops, esmod_of}
use Rattle.esmod.proofs.Accepted.{point_is, refused_is, accepted_is}
use Rattle.esmod.proofs.Accepted as limits
use Rattle.esmod.proofs.EsJob.esmod.Goals as goal

pub returns-in_default : goal.returns-in_default
unfolding esmod_of
returns-in_default c =
    let b = c.check-checked.ensures in
    c.no_hops.ensures ∙ ap no_hops (c.code.ensures ∙ b) ∙ refused_is _ _ (not_accepted b c.in_default.is)

pub modes-requires : goal.modes-requires
modes-requires c =
    let a = limits.accepted _ _ _ _ _ _ _ _ (accepted c.check-checked.ensures c.in-Ok.is) in
    (rw (point_is a c.point-k.ensures.value) a.chosen, a.path)

pub returns : goal.returns
unfolding esmod_of
returns c =
    let z = accepted c.check-checked.ensures c.in-Ok.is in
    let a = limits.accepted _ _ _ _ _ _ _ _ z in
    (rw (← point_is a c.point-k.ensures.value) c.modes.ensures) ∙ accepted_is _ z
