use Rattle.es_file.proofs.job.Goals as goal

pub returns : goal.returns
returns c = cc
