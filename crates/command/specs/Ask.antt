-- `ray ask JOB FILE [freq MHZ] [hop KM] [min DEG]`: the same tables with another frequency, asked length or minimum angle.
use Rattle.std.specs.Prelude.{ℕ, ◌+◌, ◌*◌, Bool, false, eqb, cond, List, Option, Some, None, Result, Ok, Err, codes}
use Prim.Native.String.{String}
use Rattle.std.specs.Str.{bytes_eq}
use Rattle.words.specs.Lists.{put_at}
use Rattle.words.specs.Words.{bytes_of_word}
use Rattle.job.specs.Layout.{place_of}
use Rattle.job.specs.Parts.{job_layout, shared_layout}
use Rattle.parse.specs.Nearest.{in_units, in_radians}
use Rattle.command.specs.declared.ask.Change.{Change}
use Rattle.command.specs.declared.ask.PairError.{PairError}
use Rattle.command.specs.declared.ask.PairError.TheVariants.{NoName, NoNumber}

-- the byte of a job at which one of its shared words starts
abbrev pub byte_of : String → ℕ
byte_of name = 4 * (place_of job_layout "shared" + place_of shared_layout name)

-- what a number becomes, at its byte
abbrev pub change_at : ℕ → (ℕ → ℕ) → Option ℕ → Result Change PairError
change_at at bits_of (Some n) = Ok (record { at = at; bits = bits_of n })
change_at at bits_of None = Err NoNumber

-- freq in MHz, hop in km, min in deg
abbrev pub pair_of : List ℕ → Option ℕ → Result Change PairError
pair_of name said =
    cond (bytes_eq name (codes "freq")) (change_at (byte_of "freq") in_units said)
    (cond (bytes_eq name (codes "hop")) (change_at (byte_of "ghop") in_radians said)
    (cond (bytes_eq name (codes "min")) (change_at (byte_of "amind") in_units said)
    (Err NoName)))

-- whether two pairs change one word
abbrev pub twice_of : Option Change → Option Change → Bool
twice_of (Some p) (Some q) = eqb p.at q.at
twice_of (Some p) None = false
twice_of None q = false

-- the job with that word, least byte first
abbrev pub put_of : Option Change → List ℕ → List ℕ
put_of (Some p) job = put_at job p.at (bytes_of_word p.bits)
put_of None job = job
