use Rattle.std.proofs.Common.{◌*◌, ◌+◌, rules}
use Rattle.words.specs.Words.{word_at}
use Rattle.words.proofs.FromFn.{made_by}
use Rattle.words.proofs.Rests.{word_place}
use Rattle.words.proofs.values.array_at.Goals as goal

pub returns : goal.returns
returns g c = made_by _ _ (λ i. g.W.Word.from_word (word_at c.args.s.now (c.args.at + 4 * i))) (λ i y q k. let e = word_place c.args.s.now (c.args.at + 4 * i) (search rules) in search rules) _ _ c.from_fn.ensures.items
