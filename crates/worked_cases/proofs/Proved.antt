-- One theorem over the table of cases, by a test that computes, and what it says of each row. Assumes nothing.
use mathlib.Core.Path.{◌≡◌, refl, ap, ◌∙◌}
use mathlib.Core.Bool.{Bool, true, false, ◌&&◌}
use mathlib.Core.List.{List, [], ◌∷◌}
use Prim.Native.Nat.{ℕ, zero, suc, ◌<◌}
use native.Mathlib.Nat.{le_of_suc-le-suc, not-suc-le-zero}
use lib.Dec.{T, eqb, eqb→eq}
use lib.Ieee.Fits.{and_l, and_r}
use lib.ListN.{length, get_or}
use lib.Ieee.{to_bits, of_bits, of_int, neg, add, sub, mul, div, lt, le, eq, to_unsigned}
use Rattle.arith.specs.Floats.{abs_of, min_of, max_of}
use Rattle.fnorml.specs.Fnorml.{tail_of, size_of, fnorml_of}
use Rattle.sigdis.specs.Prbmuf.{spread_of, side_of, chance_of, prbmuf_of}
use Rattle.limits.specs.Limits.{entries_within, within, broken}
use Rattle.root.specs.Root.{sqrt_of}
use Rattle.arith.specs.Run.{run, until}
use Rattle.penang.specs.Penang.{frat_of, angle_of, cusp_of, xm_of, cdel_of, top_of, f2_of, f1_of, penang_of}
use Rattle.findf.specs.Look.{entry_of, look_by, look_of, looks_of}
use Rattle.findf.specs.Walk.{ANG, ang_of, search_by, search_of, next_layer_by, next_layer_of, next_cusp_by, next_cusp_of, filled_by, filled_of}
use Rattle.findf.specs.Rows.{gap_of, slope_of, raw_of, next_mode_of, rcosd_of, high_of, hop_of, corrected_of, row_of, skip_of, far_of}
use Rattle.findf.specs.Checks.{rows_within}
use Rattle.findf.specs.Findf.{fill_of, step_by, step_of, walk_of, walked_of, jfhz_of, limits_of, findf_by, findf_of}
use Rattle.fdist.specs.Pairs.{between_of, rising_of, equal_of, falling_of, pair_of}
use Rattle.fdist.specs.Fdist as hop
use Rattle.job.specs.Solved.{solved_from}
use Rattle.worked_cases.specs.Cases.{Case, cases, expected, given, asked, answered, word, solved, found, rows_of, numbered}

-- two lists of words are equal
unfoldable pub same : List ℕ → List ℕ → Bool
same [] [] = true
same [] (b ∷ ys) = false
same (a ∷ xs) [] = false
same (a ∷ xs) (b ∷ ys) = eqb a b && same xs ys

same_equal : (xs ys : List ℕ) → T (same xs ys) → xs ≡ ys
unfolding same
same_equal [] [] t = refl
same_equal [] (b ∷ ys) t = absurd t
same_equal (a ∷ xs) [] t = absurd t
same_equal (a ∷ xs) (b ∷ ys) t =
    ap (λ (x : ℕ). x ∷ xs) (eqb→eq a b (and_l (eqb a b) (same xs ys) t))
    ∙ ap (λ (zs : List ℕ). b ∷ zs) (same_equal xs ys (and_r (eqb a b) (same xs ys) t))

-- each case of a list gives what is expected
unfoldable pub every : List Case → Bool
every [] = true
every (c ∷ cs) = same (given c) (expected c) && every cs

pub every_case : T (every cases)
unfolding every same cases given expected asked answered word solved found rows_of numbered fnorml_of tail_of size_of prbmuf_of chance_of side_of spread_of abs_of min_of max_of to_bits of_bits of_int neg add sub mul div lt le eq to_unsigned within broken sqrt_of run until frat_of angle_of cusp_of xm_of cdel_of top_of f2_of f1_of penang_of entry_of look_by look_of looks_of ANG ang_of search_by search_of next_layer_by next_layer_of next_cusp_by next_cusp_of filled_by filled_of gap_of slope_of raw_of next_mode_of rcosd_of high_of hop_of corrected_of row_of skip_of far_of rows_within entries_within fill_of step_by step_of walk_of walked_of jfhz_of limits_of findf_by findf_of between_of rising_of equal_of falling_of pair_of hop.place_by hop.after_of hop.turn_by hop.turn_of hop.run_of hop.search_by hop.fdist_by solved_from
every_case = tt

at : (cs : List Case) (d : Case) (k : ℕ) → T (every cs) → k < length cs → given (get_or cs k d) ≡ expected (get_or cs k d)
unfolding every
at [] d k t h = absurd (not-suc-le-zero h)
at (c ∷ cs) d zero t h = same_equal (given c) (expected c) (and_l (same (given c) (expected c)) (every cs) t)
at (c ∷ cs) d (suc k) t h = at cs d k (and_r (same (given c) (expected c)) (every cs) t) (le_of_suc-le-suc h)

-- row k of the table, counted from 0
pub case_holds : (d : Case) (k : ℕ) → k < length cases → given (get_or cases k d) ≡ expected (get_or cases k d)
case_holds d k = at cases d k every_case
