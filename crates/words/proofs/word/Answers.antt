use Rattle.std.proofs.Common.{◌++◌, ap, ◌∙◌, length, drop, arith}
use Rattle.words.proofs.Rests.{noughts, word_whole, word_cut, word_past}
use Rattle.words.proofs.word.Goals as goal

pub returns-in-Some-first_chunk : goal.returns-in-Some-first_chunk
returns-in-Some-first_chunk c = c.from_le_bytes.ensures ∙ word_whole _ _ _ _ c.in-Some.ensures.lookup.0.2 c.in-Some-first_chunk.ensures.cases.same

pub returns-in-None : goal.returns-in-None
returns-in-None c =
    let rest = c.in-Some.rest.now in
    c.from_le_bytes-in-None.ensures ∙ word_cut _ rest _ _ (length rest) c.in-Some.ensures.lookup.0.2 (ap (λ l. l ++ drop (length rest) noughts) c.copy_from_slice.ensures.after)

pub returns-in_default : goal.returns-in_default
returns-in_default c = word_past _ _ (omega (arith, c.in_default.ensures.lookup))
