-- The file of `ray es`: what esmod is asked, in 26 words of 4 bytes, least byte first, and esmod's answer.
use Rattle.std.specs.Prelude.{ℕ, zero, suc, ◌+◌, ◌*◌, min, Bool, cond, List, [], ◌∷◌, ◌++◌, eqb, length, Option, Some, None, Result, Ok, Err, ⊤, Float}
use Prim.Native.String.{String}
use Rattle.limits.specs.Limits.{broken, refusal_job, freq_within, amind_within, km_within, hs_within, fs_within, gcd_within, gcdkm_within}
use Rattle.job.specs.Layout.{Layout, place_of, words_in, word}
use Rattle.job.specs.Parts.{points, point_numbers, number_at, numbers_at, points_at}
use Rattle.esmod.specs.declared.EsJob.{EsJob}
use Rattle.esmod.specs.declared.EsModes.{EsModes}
use Rattle.esmod.specs.Esmod.{point_of, esmod_of}

-- km unsigned, the others f32 by their bits; fs three a point
abbrev pub es_layout : Layout
es_layout =
    ("km", 1) ∷ ("fs", points * point_numbers) ∷ ("hs", points) ∷ ("gcd", 1) ∷ ("gcdkm", 1) ∷ ("amind", 1) ∷ ("freq", 1) ∷ ("fsdead", 1) ∷ []

abbrev pub es_bytes : ℕ
es_bytes = 4 * words_in es_layout

abbrev pub of_file : String → ℕ
of_file = place_of es_layout

abbrev pub km_of : List ℕ → ℕ
km_of file = word file (of_file "km")

abbrev pub fs_of : List ℕ → List (List Float)
fs_of file = points_at file (of_file "fs")

abbrev pub hs_of : List ℕ → List Float
hs_of file = numbers_at file (of_file "hs") points

-- the point that governs, and the bits of its middle fs and of its hs
abbrev pub chosen_of : List ℕ → ℕ
chosen_of file = point_of (fs_of file) (min (km_of file) points)

abbrev pub governing_fs : List ℕ → ℕ
governing_fs file = word file (of_file "fs" + point_numbers * chosen_of file + 1)

abbrev pub governing_hs : List ℕ → ℕ
governing_hs file = word file (of_file "hs" + chosen_of file)

-- what esmod is asked
abbrev pub job_of : List ℕ → EsJob
job_of file =
    record {
      km = km_of file;
      fs = fs_of file;
      hs = hs_of file;
      gcd = number_at file (of_file "gcd");
      gcdkm = number_at file (of_file "gcdkm");
      amind = number_at file (of_file "amind");
      freq = number_at file (of_file "freq");
      fsdead = number_at file (of_file "fsdead");
    }

unfoldable pub modes_of : List ℕ → EsModes
modes_of file =
    esmod_of (km_of file) (fs_of file) (hs_of file)
    (number_at file (of_file "gcd"))
    (number_at file (of_file "gcdkm"))
    (number_at file (of_file "amind"))
    (number_at file (of_file "freq"))
    (number_at file (of_file "fsdead"))

-- the number of the first limit broken: 1 for the length, else esmod's
abbrev pub number_of : List ℕ → ℕ
number_of file = cond (eqb (length file) es_bytes) (modes_of file).refusal refusal_job

-- ---- the first number out of its range, in the order in which esmod's limits are tested

-- a word of the file, counted from 1, with its test
abbrev pub test : List ℕ → ℕ → (Float → Bool) → ℕ × Bool
test file at within = (at + 1, within (number_at file at))

abbrev pub point_tests : List ℕ → ℕ → List (ℕ × Bool)
point_tests file i =
    let fs = of_file "fs" + point_numbers * i in
    test file (of_file "hs" + i) hs_within ∷ test file fs fs_within ∷ test file (fs + 1) fs_within ∷ test file (fs + 2) fs_within ∷ []

-- the first n points
unfoldable pub points_tests : List ℕ → ℕ → List (ℕ × Bool)
points_tests file zero = []
points_tests file (suc i) = points_tests file i ++ point_tests file i

unfoldable pub last_tests : List ℕ → List (ℕ × Bool)
last_tests file = test file (of_file "gcd") gcd_within ∷ test file (of_file "gcdkm") gcdkm_within ∷ test file (of_file "fsdead") fs_within ∷ []

-- a word that is found, counted from 1; 0 where none is
abbrev pub found_by : Result ⊤ ℕ → ℕ
found_by (Ok x) = 0
found_by (Err i) = i + 1

abbrev pub counted : Option ℕ → ℕ
counted None = 0
counted (Some i) = i + 1

-- its word, counted from 1; 0 where none is out of its range
unfoldable pub found_of : List ℕ → ℕ
found_of file =
    broken
    (test file (of_file "freq") freq_within
    ∷ test file (of_file "amind") amind_within
    ∷ (of_file "km" + 1, km_within (km_of file))
    ∷ (points_tests file (min (km_of file) points) ++ last_tests file))
