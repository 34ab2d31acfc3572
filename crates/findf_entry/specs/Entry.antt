-- The outcome that C gets, with the reflectrix that it lent as the call leaves it.
use Rattle.findf.specs.declared.Reflectrix.{Reflectrix}
use Rattle.findf.specs.declared.Walked.{Walked}
use Rattle.findf_entry.specs.declared.Outcome.{Outcome}

abbrev pub left_with : Outcome → Reflectrix → Walked
left_with o rfx = record { refusal = o.refusal; looks = o.looks; rfx = rfx }
