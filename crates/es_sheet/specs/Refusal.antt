-- The two lines of a file that is refused: the limit, and the first number that is out of its range.
use Rattle.std.specs.Prelude.{ℕ, zero, suc, ◌+◌, ◌-◌, ◌/◌, ◌%◌, cond, List, [], ◌∷◌, ◌++◌, eqb, ltb, length}
use Rattle.limits.specs.Limits.{refusal_job, refusal_freq, refusal_amind}
use Rattle.job.specs.Layout.{word}
use Rattle.job.specs.Parts.{point_numbers}
use Rattle.decimal.specs.Filled.{filled_text}
use Rattle.names.specs.Names.{plains_of}
use Rattle.command.specs.Line.{bytes}
use Rattle.es_file.specs.File.{es_bytes, of_file, found_of}

abbrev pub sentence_of : ℕ → List ℕ
sentence_of n =
    cond (eqb n refusal_job) (bytes "the file is not 104 bytes long\n")
    (cond (eqb n refusal_freq) (bytes "the frequency, freq, is not within 2 to 30 MHz\n")
    (cond (eqb n refusal_amind) (bytes "the minimum angle, amind, is not within 0 to 90 deg\n")
    (bytes "km, fs, hs, gcd, gcdkm or fsdead is not within its range\n")))

-- by the word of the file, counted from 0: its name, its value and bits, its range
unfoldable pub single_text : ℕ → ℕ → List ℕ
single_text w i =
    cond (eqb i (of_file "gcd")) (filled_text (w ∷ []) (bytes "  found: gcd @A3l (@Ax0), which has to be 0.001 to 3.2 radians\n"))
    (cond (eqb i (of_file "gcdkm")) (filled_text (w ∷ []) (bytes "  found: gcdkm @A3l (@Ax0), which has to be 0 to 20100 km\n"))
    (cond (eqb i (of_file "amind")) (filled_text (w ∷ []) (bytes "  found: amind @A3l (@Ax0)\n"))
    (cond (eqb i (of_file "freq")) (filled_text (w ∷ []) (bytes "  found: freq @A3l (@Ax0)\n"))
    (filled_text (w ∷ []) (bytes "  found: fsdead @A3l (@Ax0), which has to be 0 to 100 MHz\n")))))

unfoldable pub word_text : ℕ → ℕ → List ℕ
word_text w i =
    cond (eqb i (of_file "km")) (filled_text (w ∷ []) (bytes "  found: km @Aw0, which has to be 1 to 5\n"))
    (cond (ltb i (of_file "hs")) (let fs = i - of_file "fs" in filled_text ((fs % point_numbers + 1) ∷ (fs / point_numbers) ∷ w ∷ []) (bytes "  found: fs @Aw0, point @Bw0: @C3l (@Cx0), which has to be 0 to 100 MHz\n"))
    (cond (ltb i (of_file "gcd")) (filled_text ((i - of_file "hs") ∷ w ∷ []) (bytes "  found: hs, point @Aw0: @B3l (@Bx0), which has to be 80 to 200 km\n"))
    (single_text w i)))

-- by the word of the file counted from 1; nothing at 0
abbrev pub line_of : List ℕ → ℕ → List ℕ
line_of file zero = []
line_of file (suc i) = word_text (word file i) i

abbrev pub length_text : ℕ → List ℕ
length_text n = cond (ltb es_bytes n) (bytes "  found: more than 104 bytes\n") (filled_text (n ∷ []) (bytes "  found: @Aw0 bytes\n"))

abbrev pub found_text : List ℕ → List ℕ
found_text file = cond (eqb (length file) es_bytes) (line_of file (found_of file)) (length_text (length file))

unfoldable pub refusal_text : List ℕ → List ℕ → ℕ → List ℕ
refusal_text name file n = plains_of name ++ filled_text (n ∷ []) (bytes ": refused, limit @Aw0: ") ++ sentence_of n ++ found_text file
