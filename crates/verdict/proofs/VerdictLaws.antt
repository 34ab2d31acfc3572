-- The cases of the verdict, one law for each end of `verdict`. Assumes nothing.
use mathlib.Core.Path.{◌≡◌}
use mathlib.Core.Bool.{Bool, true, false}
use mathlib.Core.List.{List}
use Prim.Native.Nat.{ℕ, ◌<◌, ◌≤◌}
use lib.Ieee.{lt, le}
use borrow.Author.Tests.{lt-ltb, le-ltb, eq-eqb, ne_eqb}
use Rattle.arith.specs.Floats.{f32}
use Rattle.job.specs.Layout.{word}
use Rattle.view.specs.View.{of_answer, asked_of, slot_of, is_empty, rays_before}
use Rattle.verdict.specs.declared.Case.TheVariants.{Rays, NoRows, TooLong, NoLength, TooShort, NoPair, BelowMinimum}
use Rattle.verdict.specs.Verdict.{case_of, seen_of, verdict_of}

module _ (job answer : List ℕ) {n : ℕ} (rays : n ≡ rays_before job answer 6) where
  pub some_ray : 0 < n → Rays ≡ verdict_of job answer
  unfolding case_of seen_of
  some_ray h = rw (← rays, lt-ltb 0 n h)

  module _ (none : n ≤ 0) {rows : ℕ} (given : rows ≡ word answer (of_answer "rows")) where
    pub no_rows : rows ≡ 0 → NoRows ≡ verdict_of job answer
    unfolding case_of seen_of
    no_rows h = rw (← rays, le-ltb 0 n none, ← given, eq-eqb rows 0 h)

    module _ (some : rows ≡ 0 → ⊥) {far : Bool} (test : far ≡ le (f32 (word answer (of_answer "dmaxkm"))) (f32 (asked_of job))) where
      module _ (h : far ≡ true) {above : Bool} (more : above ≡ lt (f32 0) (f32 (word answer (of_answer "dmaxkm")))) where
        pub too_long : above ≡ true → TooLong ≡ verdict_of job answer
        unfolding case_of seen_of
        too_long j = rw (← rays, le-ltb 0 n none, ← given, ne_eqb rows 0 some, ← test, h, ← more, j)

        pub no_length : above ≡ false → NoLength ≡ verdict_of job answer
        unfolding case_of seen_of
        no_length j = rw (← rays, le-ltb 0 n none, ← given, ne_eqb rows 0 some, ← test, h, ← more, j)

      module _ (h : far ≡ false) {empty : Bool} (first : empty ≡ is_empty (slot_of job answer 0)) where
        pub below_minimum : empty ≡ false → BelowMinimum ≡ verdict_of job answer
        unfolding case_of seen_of
        below_minimum j = rw (← rays, le-ltb 0 n none, ← given, ne_eqb rows 0 some, ← test, h, ← first, j)

        module _ (j : empty ≡ true) {near : Bool} (less : near ≡ lt (f32 (asked_of job)) (f32 (word answer (of_answer "dskpkm")))) where
          pub too_short : near ≡ true → TooShort ≡ verdict_of job answer
          unfolding case_of seen_of
          too_short k = rw (← rays, le-ltb 0 n none, ← given, ne_eqb rows 0 some, ← test, h, ← first, j, ← less, k)

          pub no_pair : near ≡ false → NoPair ≡ verdict_of job answer
          unfolding case_of seen_of
          no_pair k = rw (← rays, le-ltb 0 n none, ← given, ne_eqb rows 0 some, ← test, h, ← first, j, ← less, k)
