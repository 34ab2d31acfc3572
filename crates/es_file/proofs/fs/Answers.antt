use Rattle.std.proofs.Common.{◌+◌, ◌*◌, rules}
use Rattle.words.proofs.FromFn.{made_by}
use Rattle.job.specs.Parts.{numbers_at}
use Rattle.es_file.proofs.fs.Goals as goal

pub returns : goal.returns
returns c = made_by _ _ (λ i. numbers_at c.args.file.now (1 + 3 * i) 3) (λ i y q k. search rules) _ _ c.from_fn.ensures.items
