use Rattle.fdist.proofs.search.none.Goals as goal

pub returns : goal.returns
returns c = cc
