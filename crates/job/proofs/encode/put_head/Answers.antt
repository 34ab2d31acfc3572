use Rattle.job.proofs.LayoutLaws.{then}
use mathlib.Core.Path.{refl}
use Rattle.job.proofs.encode.put_head.Goals as goal

pub returns : goal.returns
returns c = then _ _ _ _ _ _ _ (then _ _ _ _ _ _ _ (then _ _ _ _ _ _ _ (then _ _ _ _ _ _ _ (then _ _ _ _ _ _ _ (then _ _ _ _ _ _ _ (then _ _ _ _ _ _ _ (then _ _ _ _ _ _ _ (then _ _ _ _ _ _ _ (then _ _ _ _ _ _ _ (then _ _ _ _ _ _ _ c.put_size.ensures refl c.put_one.ensures) refl c.put_one-2.ensures) refl c.put_array.ensures) refl c.put_one-3.ensures) refl c.put_one-4.ensures) refl c.put_one-5.ensures) refl c.put_one-6.ensures) refl c.put_one-7.ensures) refl c.put_one-8.ensures) refl c.put_one-9.ensures) refl c.put_size-2.ensures
