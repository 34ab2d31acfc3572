-- findf into lent columns: the reflectrix that they make with the figures beside them, before the walk and after it.
use Rattle.std.specs.Prelude.{ℕ, List, Float}
use Rattle.findf.specs.declared.Reflectrix.{Reflectrix}
use Rattle.findf.specs.declared.Walked.{Walked}
use Rattle.findf_entry.specs.declared.columns.Figures.{Figures}
use Rattle.findf_entry.specs.declared.columns.Outcome.{Outcome}

-- the reflectrix that eight lent columns and the figures beside them make
abbrev pub reflectrix_from : List Float → List Float → List Float → List Float → List Float → List Float → List ℕ → List ℕ → Figures → Reflectrix
reflectrix_from delfx hpflx htflx gdflx fvflx afflx imode kind f =
    record {
      delfx = delfx;
      hpflx = hpflx;
      htflx = htflx;
      gdflx = gdflx;
      fvflx = fvflx;
      afflx = afflx;
      imode = imode;
      kind = kind;
      dskpkm = f.dskpkm;
      delskp = f.delskp;
      hpskp = f.hpskp;
      htskp = f.htskp;
      dmaxkm = f.dmaxkm;
      fvskp = f.fvskp;
      iskp = f.iskp;
      delpen = f.delpen;
      iaftxr = f.iaftxr;
      rows_this_call = f.rows_this_call;
    }

-- the answer that they make once the walk is over
abbrev pub walked_from : List Float → List Float → List Float → List Float → List Float → List Float → List ℕ → List ℕ → Outcome → Walked
walked_from delfx hpflx htflx gdflx fvflx afflx imode kind o =
    record { refusal = o.refusal; looks = o.looks; rfx = reflectrix_from delfx hpflx htflx gdflx fvflx afflx imode kind o.figures }
