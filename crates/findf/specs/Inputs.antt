-- What a walk is given, and what it reads.
use Rattle.std.specs.Prelude.{ℕ, List, [], ℤ, slice_index_or, Float}
use Rattle.std.specs.Float.{nan}
use Rattle.findf.specs.declared.Tables.{Tables}
use Rattle.findf.specs.declared.walk.Setup.{Setup}

-- one point of five, the number of angles, the frequency, the minimum angle, the points' critical frequencies and the tables
pub record Job : Type 0 where
  pub k : ℕ
  pub nang : ℕ
  pub freq : Float
  pub amind : Float
  pub fi : List (List Float)
  pub tables : Tables

abbrev pub job_by : ℕ → ℕ → Float → Float → List (List Float) → Tables → Job
job_by k nang freq amind fi tables = record { k = k; nang = nang; freq = freq; amind = amind; fi = fi; tables = tables }

-- the tables one by one
abbrev pub tables_by : List Float → List Float → List Float → List Float → List ℤ → Tables
tables_by fvert hprim htrue afac ifob = record { fvert = fvert; hprim = hprim; htrue = htrue; afac = afac; ifob = ifob }

-- "one inner array copied out for point k", and its second and third number
abbrev pub point_of : Job → List Float
point_of j = slice_index_or j.fi j.k []

abbrev pub second_of : Job → Float
second_of j = slice_index_or (point_of j) 1 nan

abbrev pub third_of : Job → Float
third_of j = slice_index_or (point_of j) 2 nan

-- what the walk reads: the job's numbers, with jfhz, fi's second number, fc2 and the penetration angles, and the tables
pub record Inputs : Type 0 where
  pub nang : ℕ
  pub freq : Float
  pub amind : Float
  pub jfhz : ℕ
  pub second : Float
  pub fc2 : Float
  pub delpen : List Float
  pub tables : Tables

abbrev pub inputs_of : Setup → Tables → Inputs
inputs_of s tables =
    record {
      nang = s.nang;
      freq = s.freq;
      amind = s.amind;
      jfhz = s.jfhz;
      second = s.second;
      fc2 = s.fc2;
      delpen = s.delpen;
      tables = tables;
    }
