-- What private functions ask for and say: nothing that a reader must believe.
use Rattle.std.specs.Prelude.{ℕ, ◌*◌, List}
use Rattle.words.specs.Lists.{put_at}
use Rattle.words.specs.Words.{bytes_of}
use Rattle.job.specs.Layout.{Contents, contents_of}

-- places of words from which four times a place, and a table's length more, still fits a usize
abbrev pub reach : ℕ
reach = 0x1_0000

-- bytes with parts put from word `at` on
unfoldable pub laid : List ℕ → ℕ → Contents → List ℕ
laid bytes at ps = put_at bytes (4 * at) (bytes_of (contents_of ps))
