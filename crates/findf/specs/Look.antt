-- The looks, modes.rs lines 746 to 770. Document 01: "a look is one turn of the inner loop".
use Rattle.std.specs.Prelude.{ℕ, suc, ◌+◌, ◌-◌, Bool, true, false, List, ℤ, pos, ◌==◌, nat_le, nat_lt, slice_index_or, unsigned_abs}
use Rattle.arith.specs.Run.{Next, more, done, run}
use Rattle.findf.specs.declared.look.Looked.{Looked}
use Rattle.findf.specs.declared.walk.Label.{Label}
use Rattle.findf.specs.declared.walk.Label.TheVariants.{Search, Fill}
use Rattle.findf.specs.declared.walk.Fill.TheVariants.{Exact, Interp}

-- entry i of the flat table; within 0 to 99999 it is the entry itself
unfoldable pub entry_of : List ℤ → ℕ → ℕ
entry_of ifob i = unsigned_abs (slice_index_or ifob i (pos 0))

-- where the looks end: the next label, the row, the looks so far
abbrev pub looked : Label → ℕ → ℕ → Looked
looked label ih looks = record { label = label; ih = ih; looks = looks }

-- What one look gives, by its five tests in the source's order: "lowest entry ≥ jfhz fills from the current row `ih`; then `ih` at the end of the
-- range goes to the next ANG; equal fills; greater moves `ih`; next entry < jfhz moves `ih`; otherwise interpolation."
unfoldable pub look_by : Bool → Bool → Bool → Bool → Bool → ℕ → ℕ → Next (ℕ × ℕ) Looked
look_by true last equal greater less ih looks = done (looked (Fill Exact) ih looks)
look_by false true equal greater less ih looks = done (looked Search ih looks)
look_by false false true greater less ih looks = done (looked (Fill Exact) ih looks)
look_by false false false true less ih looks = more (ih + 1, looks)
look_by false false false false true ih looks = more (ih + 1, looks)
look_by false false false false false ih looks = done (looked (Fill Interp) ih looks)

-- one look at row `s.0`, with `s.1` looks before it
unfoldable pub look_of : List ℤ → ℕ → ℕ → ℕ → ℕ → ℕ × ℕ → Next (ℕ × ℕ) Looked
look_of ifob jfhz column ilow ihigh s =
    let v = entry_of ifob (column + s.0 - 1) in
    look_by (nat_le jfhz (entry_of ifob (column + ilow - 1))) (nat_le ihigh s.0) (v == jfhz) (nat_lt jfhz v)
    (nat_lt (entry_of ifob (column + s.0)) jfhz) s.0 (s.1 + 1)

-- the looks from row ih on: as many as there are rows up to ihigh, at most
unfoldable pub looks_of : List ℤ → ℕ → ℕ → ℕ → ℕ → ℕ → ℕ → Looked
looks_of ifob jfhz column ilow ihigh ih looks =
    run (look_of ifob jfhz column ilow ihigh) (looked Search ih looks) (suc (ihigh - ih)) (ih, looks)
