use Rattle.job.proofs.LayoutLaws.{then}
use mathlib.Core.Path.{refl}
use Rattle.job.proofs.encode.put_columns.Goals as goal

pub returns : goal.returns
returns c = then _ _ _ _ _ _ _ (then _ _ _ _ _ _ _ (then _ _ _ _ _ _ _ (then _ _ _ _ _ _ _ (then _ _ _ _ _ _ _ (then _ _ _ _ _ _ _ (then _ _ _ _ _ _ _ c.put_array.ensures refl c.put_array-2.ensures) refl c.put_array-3.ensures) refl c.put_array-4.ensures) refl c.put_array-5.ensures) refl c.put_array-6.ensures) refl c.put_array-7.ensures) refl c.put_array-8.ensures
