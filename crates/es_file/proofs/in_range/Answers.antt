use Rattle.es_file.proofs.in_range.Goals as goal

pub returns : goal.returns
returns c = cc
