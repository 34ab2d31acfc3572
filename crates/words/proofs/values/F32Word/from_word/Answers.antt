use Rattle.words.proofs.values.F32Word.from_word.Goals as goal

pub returns : goal.returns
returns c = c.float.ensures
