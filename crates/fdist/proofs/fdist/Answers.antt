use Rattle.fdist.proofs.fdist.Goals as goal

pub returns : goal.returns
returns c = c.fdist_over.ensures
