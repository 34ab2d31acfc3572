use Rattle.std.proofs.Common.{rules}
use Rattle.words.proofs.FromFn.{made_by}
use Rattle.crossing.specs.Crossing.{row_numbers}
use Rattle.crossing.proofs.row_numbers.Goals as goal

pub returns : goal.returns
unfolding row_numbers
returns c = made_by _ _ (λ i. i) (λ i y q k. search rules) _ _ c.from_fn.ensures.items
