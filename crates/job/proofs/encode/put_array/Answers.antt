use mathlib.Core.Path.{◌∙◌}
use borrow.Author.Rules.{rules}
use Rattle.job.proofs.Puts.{put_values}
use Rattle.job.proofs.encode.put_array.Goals as goal

pub returns : goal.returns
returns g c = c.put_all.ensures ∙ put_values g.W.Word.to_word g.W.Word.past c.args.xs.now _ _ _ (search rules)
