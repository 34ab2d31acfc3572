-- A command line as one text: its words, and the commands by their words.
use Rattle.std.specs.Prelude.{ℕ, cond, List, [], Option, Some, None, unwrap_or, slice_get, count_by, ◌==◌, codes}
use Prim.Native.Char.{code}
use Prim.Native.String.{String, len, char_at}
use Rattle.std.specs.List.{slice_split}
use Rattle.std.specs.Str.{bytes_eq}
use Rattle.words.specs.Lists.{tab}
use Rattle.command.specs.declared.line.Verb.{Verb}
use Rattle.command.specs.declared.line.Verb.TheVariants.{Show, Draw, Job, Check, Words, Ask, Es, Help}

-- a text's bytes
abbrev pub bytes : String → List ℕ
bytes s = tab (len s) (λ i. code (char_at s i))

-- the words: what stands between the bytes 0, and behind the last
abbrev pub words_of : List ℕ → List (List ℕ)
words_of line = slice_split (λ b. b == 0) line

-- word i, counted from 0; nothing where there are not so many
abbrev pub word_of : List ℕ → ℕ → List ℕ
word_of line i = unwrap_or (slice_get (words_of line) i) []

-- how many words there are, each with a byte 0 behind it
abbrev pub count_of : List ℕ → ℕ
count_of line = count_by (λ b. b == 0) line

abbrev pub verb_of : List ℕ → Option Verb
verb_of w =
    cond (bytes_eq w (codes "show")) (Some Show)
    (cond (bytes_eq w (codes "draw")) (Some Draw)
    (cond (bytes_eq w (codes "job")) (Some Job)
    (cond (bytes_eq w (codes "check")) (Some Check)
    (cond (bytes_eq w (codes "words")) (Some Words)
    (cond (bytes_eq w (codes "ask")) (Some Ask)
    (cond (bytes_eq w (codes "es")) (Some Es)
    (cond (bytes_eq w (codes "help")) (Some Help)
    (cond (bytes_eq w (codes "--help")) (Some Help)
    (cond (bytes_eq w (codes "-h")) (Some Help)
    None)))))))))
