use Rattle.words.proofs.values.F32Word.to_word.Goals as goal

pub returns : goal.returns
returns c = c.bits.ensures
