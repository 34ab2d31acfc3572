use Rattle.findf_entry.proofs.columns.ray_findf_into.Goals as goal

pub returns : goal.returns
returns c = c.ray_findf_over-over.ensures
