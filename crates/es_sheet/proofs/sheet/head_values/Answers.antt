use Rattle.es_sheet.proofs.sheet.head_values.Goals as goal

pub returns : goal.returns
returns c = cc
