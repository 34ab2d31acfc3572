use Rattle.es_sheet.proofs.sheet.empty.Goals as goal

pub returns : goal.returns
returns c = cc
