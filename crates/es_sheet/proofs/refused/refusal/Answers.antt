use Rattle.decimal.proofs.PageLaws.{added_then}
use Rattle.words.specs.Lists.{tab}
use Rattle.es_sheet.specs.Refusal.{refusal_text}
use Rattle.es_sheet.proofs.RefusalLaws.{told}
use Rattle.es_sheet.proofs.refused.refusal.Goals as goal

pub returns : goal.returns
unfolding tab refusal_text
returns c =
    let sentence = rw (c.unwrap_or-broken.ensures, told _ _ c.try_from.ensures) at c.sentence.ensures in
    added_then _ _ _ (added_then _ _ _ (added_then _ _ _ c.plains.ensures c.filled.ensures) sentence) c.found.ensures
