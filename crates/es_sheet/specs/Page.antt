-- The page of `ray es`: the point that governs, what was asked, and slots 4 and 5.
use Rattle.std.specs.Prelude.{ℕ, Bool, cond, ◌&&◌, List, [], ◌∷◌, ◌++◌}
use Rattle.std.specs.Float.{binary32}
use Rattle.std.specs.Float.Ieee.{to_bits, lt, le}
use Rattle.arith.specs.Floats.{f32}
use Rattle.arith.specs.Numbers.{0·0}
use Rattle.job.specs.Layout.{word}
use Rattle.decimal.specs.Filled.{filled_text}
use Rattle.names.specs.Names.{shown_of}
use Rattle.command.specs.Line.{bytes}
use Rattle.esmod.specs.declared.EsHop.{EsHop}
use Rattle.esmod.specs.declared.EsModes.{EsModes}
use Rattle.es_file.specs.File.{of_file, km_of, chosen_of, governing_fs, governing_hs, modes_of}

abbrev pub head_values : List ℕ → List ℕ
head_values file =
    chosen_of file ∷ km_of file ∷ governing_fs file ∷ governing_hs file ∷ word file (of_file "freq") ∷ word file (of_file "amind") ∷ word file (of_file "gcdkm") ∷ word file (of_file "fsdead") ∷ word file (of_file "gcd") ∷ []

-- "it is the smallest middle fs"; lengths with one decimal, all else with three
abbrev pub head_text : List ℕ → List ℕ
head_text file =
    filled_text (head_values file)
    (bytes ": slots 4 and 5\n------------------------------------------------------------------------------\n  Point @Aw1 of the @Bw1, counted from 0, governs: the smallest middle fs.\n\n  Frequency     @E39 MHz          Middle fs     @C39 MHz\n  Path, gcdkm   @G19 km           Height, hs    @D19 km\n  Path, gcd     @I39 rad          Cutoff, fsdead@H39 MHz\n  Minimum angle @F39 deg\n\nRAYS by sporadic E\nslot  hops    take-off      height       delay\n                 angle\n                   deg          km          ms\n")

-- an empty slot has -1 hops
abbrev pub is_empty : EsHop → Bool
is_empty h = lt h.hn 0·0

abbrev pub hop_values : ℕ → EsHop → List ℕ
hop_values s h = s ∷ to_bits binary32 h.hn ∷ to_bits binary32 h.b ∷ to_bits binary32 h.hp ∷ to_bits binary32 h.timed ∷ []

abbrev pub slot_text : ℕ → EsHop → List ℕ
slot_text s h =
    cond (is_empty h)
    (filled_text (s ∷ []) (bytes "  @Aw1   empty\n"))
    (filled_text (hop_values s h) (bytes "  @Aw1   @B01      @C39   @D19   @E39\n"))

-- why both are empty, by the tests of esmod in their order
abbrev pub why_text : List ℕ → List ℕ
why_text file =
    cond (le (f32 (word file (of_file "freq"))) (f32 (word file (of_file "fsdead"))))
    (bytes "No ray: the frequency is not above the cutoff, fsdead.\n")
    (cond (le (f32 (governing_fs file)) 0·0)
    (bytes "No ray: the middle fs is not above 0.\n")
    (bytes "No ray: by one or two hops the path is too long, or the angle too low.\n"))

abbrev pub slots_text : List ℕ → EsModes → List ℕ
slots_text file m =
    slot_text 4 m.slot4 ++ slot_text 5 m.slot5 ++ cond (is_empty m.slot4 && is_empty m.slot5) (why_text file) []

unfoldable pub page_of : List ℕ → List ℕ → List ℕ
page_of name file = bytes "SPORADIC E of " ++ shown_of name ++ head_text file ++ slots_text file (modes_of file)
