-- fdist behind a `&mut`, document 01: "two thin faces update a reflectrix and a rayset that the caller lends".
-- What the return value makes with what was lent, as the call leaves it, is the answer of the form by value. For findf it is `walked_with` of findf/specs/Findf.antt.
use Rattle.std.specs.Prelude.{Result, Ok, Err}
use Rattle.limits.specs.Limits.{number_of}
use Rattle.limits.specs.declared.Refusal.{Refusal}
use Rattle.fdist.specs.declared.HopModes.{HopModes}
use Rattle.fdist.specs.declared.Searched.{Searched}
use Rattle.fdist.specs.Fdist.{found_by, refused_of}
use Rattle.by_reference.specs.declared.Counts.{Counts}

abbrev pub searched_with : Result Counts Refusal → HopModes → Searched
searched_with (Ok r) m = found_by r.pairs r.rays m
searched_with (Err refusal) m = refused_of m (number_of refusal)
