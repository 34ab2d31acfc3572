-- The limits on the tables.
use Rattle.std.specs.Prelude.{ℕ, zero, suc, Bool, true, ◌&&◌, List, slice_index_or, Float}
use Rattle.std.specs.Float.{nan}
use Rattle.limits.specs.Limits.{fvert_within, hprim_within, htrue_within, afac_within}

-- 9: one row of the four tables, and the first n rows
abbrev pub row_within : Float → Float → Float → Float → Bool
row_within fvert hprim htrue afac = ((fvert_within fvert && hprim_within hprim) && htrue_within htrue) && afac_within afac

unfoldable pub rows_within : List Float → List Float → List Float → List Float → ℕ → Bool
rows_within fvert hprim htrue afac zero = true
rows_within fvert hprim htrue afac (suc i) =
    rows_within fvert hprim htrue afac i && row_within (slice_index_or fvert i nan) (slice_index_or hprim i nan) (slice_index_or htrue i nan) (slice_index_or afac i nan)
