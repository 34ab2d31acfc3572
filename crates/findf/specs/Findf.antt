-- findf, modes.rs lines 670 to 904: the walk as steps, its start, and the limits before it. Document 01: "A walk is one run of `findf`"; its looks are
-- "the turns of the inner loop", its rows "those written".
use Rattle.std.specs.Prelude.{ℕ, zero, suc, Bool, true, false, List, [], ◌∷◌, Result, Ok, Err, replicate, Float}
use Rattle.std.specs.Float.Ieee.{to_unsigned, neg}
use Rattle.arith.specs.Floats.{◌⊗◌}
use Rattle.arith.specs.Numbers.{0·0, 1·0, 1000·0, 10000·0}
use Rattle.arith.specs.Run.{Next, run, until}
use Rattle.limits.specs.Limits.{entries_within, broken, number_of, refusal_k, k_within, refusal_nang, nang_within, refusal_freq, freq_within, refusal_amind, amind_within, refusal_fi, fi_within, refusal_table, refusal_ifob}
use Rattle.penang.specs.Penang.{penang_of}
use Rattle.findf.specs.Walk.{search_of, next_layer_of, next_cusp_of, filled_of, done_at, start}
use Rattle.findf.specs.Inputs.{Job, second_of, third_of, Inputs}
use Rattle.findf.specs.Rows.{row_of, put_row}
use Rattle.findf.specs.Checks.{rows_within}
use Rattle.penang.specs.declared.Penetration.{Penetration}
use Rattle.findf.specs.declared.walk.Walk.{Walk}
use Rattle.findf.specs.declared.walk.Label.{Label}
use Rattle.findf.specs.declared.walk.Label.TheVariants.{Search, NextLayer, Fill, NextCusp, Done}
use Rattle.findf.specs.declared.walk.Fill as F
use Rattle.findf.specs.declared.Reflectrix.{Reflectrix}
use Rattle.findf.specs.declared.Reflected.{Reflected}
use Rattle.findf.specs.declared.Walked.{Walked}
use Rattle.limits.specs.declared.Refusal.{Refusal}

-- a state of the walk: what the search knows, and the reflectrix as written so far
abbrev pub State : Type 0
State = Walk × Reflectrix

-- the reflectrix once the row of a fill is written (lines 810 to 889)
unfoldable pub fill_of : Inputs → F.Fill → Walk → Reflectrix → Reflectrix
fill_of e fill w r =
    put_row e.amind w.rows w.il r (row_of e r.delfx fill w)

-- One step is one turn of the Rust's label loop with its looks (lines 725 to 903). Done is a fixed point: the turn that finds Done is no step.
unfoldable pub step_by : Inputs → Label → Walk → Reflectrix → State
step_by e Search w r = (search_of e.tables.ifob e.delpen e.jfhz e.nang w, r)
step_by e NextLayer w r = (next_layer_of e.second w, r)
step_by e NextCusp w r = (next_cusp_of e.delpen w, r)
step_by e (Fill fill) w r = (filled_of fill w, fill_of e fill w r)
step_by e Done w r = (w, r)

-- the step of a state, by its label; defined for every state
unfoldable pub step_of : Inputs → State → State
step_of e s = step_by e s.0.label s.0 s.1

-- the turn of the loop: it ends at Done
abbrev pub turn_of : Inputs → State → Next State State
turn_of e = until (λ s. done_at s.0.label) (step_of e)

-- more steps than any walk takes: still more of them, or another answer for want of them, would change nothing (StepLaws, `walk_same`)
abbrev pub walk_steps : ℕ
walk_steps = 430

-- the steps from the start until Done (StepLaws, `walk_iterate`: it is the step iterated)
unfoldable pub walk_of : Inputs → Reflectrix → State
walk_of e r = run (turn_of e) (start, r) walk_steps (start, r)

-- no refusal, the looks, and the reflectrix as the walk leaves it
abbrev pub answered : ℕ → Reflectrix → Walked
answered looks rfx = record { refusal = 0; looks = looks; rfx = rfx }

abbrev pub answer : State → Walked
answer s = answered s.0.looks s.1

unfoldable pub walked_of : Inputs → Reflectrix → Walked
walked_of e r = answer (walk_of e r)

-- "jfhz is 1000 × freq cut towards zero" (line 683)
unfoldable pub jfhz_of : Float → ℕ
jfhz_of freq = to_unsigned 64 (1000·0 ⊗ freq)

-- −1 where penang says so (lines 665 to 666)
abbrev pub unless_of : Bool → Float → Float
unless_of true x = neg 1·0
unless_of false x = x

-- lines 686 to 690
abbrev pub zeros : List Float
zeros = replicate 45 0·0

-- the start's contents, with the penetration angles, the farthest hop and the skip distance by name
abbrev pub begun_by : Reflectrix → List Float → Float → Float → Reflectrix
begun_by r delpen dmaxkm dskpkm =
    record {
      delfx = zeros;
      hpflx = zeros;
      htflx = r.htflx;
      gdflx = zeros;
      fvflx = r.fvflx;
      afflx = r.afflx;
      imode = r.imode;
      kind = replicate 45 0;
      dskpkm = dskpkm;
      delskp = r.delskp;
      hpskp = r.hpskp;
      htskp = r.htskp;
      dmaxkm = dmaxkm;
      fvskp = r.fvskp;
      iskp = r.iskp;
      delpen = delpen;
      iaftxr = r.iaftxr;
      rows_this_call = 0;
    }

-- lines 684 to 696: "It first sets dmaxkm 0, dskpkm 10000, and hpflx, delfx, gdflx to 0 in all 45 rows; every other field keeps its old contents
-- until written", and the row count to 0; then penang. Order 2: "Rows not written in this call have 0" as their kind.
abbrev pub begun : Reflectrix → Penetration → Reflectrix
begun r p = begun_by r p.delpen (unless_of p.dead 0·0) (unless_of p.dead 10000·0)

-- what an accepted job's walk reads: fc2 is the square of fi's third number (line 692)
abbrev pub read_by : Job → Penetration → Inputs
read_by j p =
    record {
      nang = j.nang;
      freq = j.freq;
      amind = j.amind;
      jfhz = jfhz_of j.freq;
      second = second_of j;
      fc2 = third_of j ⊗ third_of j;
      delpen = p.delpen;
      tables = j.tables;
    }

abbrev pub angles_of : Job → Penetration
angles_of j = penang_of j.tables.fvert j.tables.htrue (second_of j) j.freq

-- "`findf` by value checks 3 to 6, 8 to 10", in this order
unfoldable pub limits_of : Job → List (ℕ × Bool)
limits_of j =
    (refusal_k, k_within j.k)
    ∷ (refusal_nang, nang_within j.nang)
    ∷ (refusal_freq, freq_within j.freq)
    ∷ (refusal_amind, amind_within j.amind)
    ∷ (refusal_fi, fi_within (second_of j) (third_of j))
    ∷ (refusal_table, rows_within j.tables.fvert j.tables.hprim j.tables.htrue j.tables.afac 30)
    ∷ (refusal_ifob, entries_within j.tables.ifob 1200)
    ∷ []

-- "a refusal changes nothing lent or passed"
abbrev pub refused_of : ℕ → Reflectrix → Walked
refused_of refusal r = record { refusal = refusal; looks = 0; rfx = r }

-- what a call returns, with the reflectrix that it was lent as it leaves it
abbrev pub walked_with : Result ℕ Refusal → Reflectrix → Walked
walked_with (Ok looks) rfx = answered looks rfx
walked_with (Err refusal) rfx = refused_of (number_of refusal) rfx

-- what a call by value returns, with the reflectrix that is to hold it: a refusal leaves it
abbrev pub walked_by : Result Reflected Refusal → Reflectrix → Walked
walked_by (Ok a) rfx = answered a.looks a.rfx
walked_by (Err refusal) rfx = refused_of (number_of refusal) rfx

-- findf, by the number of the first limit broken
unfoldable pub findf_by : ℕ → Reflectrix → Job → Walked
findf_by zero r j = walked_of (read_by j (angles_of j)) (begun r (angles_of j))
findf_by (suc n) r j = refused_of (suc n) r

unfoldable pub findf_of : Reflectrix → Job → Walked
findf_of r j = findf_by (broken (limits_of j)) r j
