-- The row that a fill writes, modes.rs lines 810 to 889, and the skip and farthest distances after it.
use Rattle.std.specs.Prelude.{ℕ, ◌+◌, ◌-◌, ◌*◌, cond, List, get_or, pos, nat_le, slice_index_or, slice_set, Float}
use Rattle.std.specs.Float.{nan, binary32}
use Rattle.std.specs.Float.Ieee.{of_int, neg, lt, le}
use Rattle.arith.specs.Floats.{◌⊕◌, ◌⊖◌, ◌⊗◌, ◌⊘◌, RZ, D2R, PIO2, max_of}
use Rattle.arith.specs.Numbers.{0·0, 0·001, 1·0, 2·0}
use Rattle.angles.specs.SinCos.{cos_of}
use Rattle.angles.specs.Arcsine.{asin_of}
use Rattle.findf.specs.Look.{entry_of}
use Rattle.findf.specs.Inputs.{Inputs}
use Rattle.findf.specs.Walk.{ang_of}
use Rattle.findf.specs.declared.walk.Walk.{Walk}
use Rattle.findf.specs.declared.walk.Fill.{Fill}
use Rattle.findf.specs.declared.walk.Fill.TheVariants.{Exact, Interp, Cusp, NextCusp360}
use Rattle.findf.specs.declared.rows.Raw.{Raw}
use Rattle.findf.specs.declared.correction.Corrected.{Corrected}
use Rattle.findf.specs.declared.correction.Row.{Row}
use Rattle.findf.specs.declared.skip.Skip.{Skip}
use Rattle.findf.specs.declared.Reflectrix.{Reflectrix}
use Rattle.findf.specs.declared.Tables.{Tables}

-- a − b as a float
unfoldable pub gap_of : ℕ → ℕ → Float
gap_of a b = cond (nat_le b a) (of_int binary32 (pos (a - b))) (neg (of_int binary32 (pos (b - a))))

-- lines 825 to 829
unfoldable pub slope_of : ℕ → ℕ → ℕ → Float
slope_of lo hi jfhz = gap_of jfhz lo ⊘ max_of (gap_of hi lo) 1·0

-- row h of the tables, as lines 814 to 822 read it
abbrev pub raw_at : Tables → ℕ → Float → Raw
raw_at t h del =
    record { del = del; ht = slice_index_or t.htrue h nan; fv = slice_index_or t.fvert h nan; hp = slice_index_or t.hprim h nan; af = slice_index_or t.afac h nan }

-- between rows h and h + 1, as lines 830 to 834 do
abbrev pub between : List Float → ℕ → Float → Float
between xs h slope = get_or xs h nan ⊕ (slope ⊗ (get_or xs (h + 1) nan ⊖ get_or xs h nan))

abbrev pub raw_between : Tables → ℕ → Float → Float → Raw
raw_between t h del slope =
    record { del = del; ht = between t.htrue h slope; fv = between t.fvert h slope; hp = between t.hprim h slope; af = between t.afac h slope }

-- the row before its correction: angle, true height, vertical frequency, virtual height, absorption factor (lines 813 to 862)
unfoldable pub raw_of : Tables → List Float → List Float → ℕ → Fill → Walk → Raw
raw_of t delpen delfx jfhz Exact w = raw_at t (w.ih - 1) (ang_of (w.ia - 1))
raw_of t delpen delfx jfhz Interp w =
    let at = (w.ia - 1) * 30 + w.ih in
    raw_between t (w.ih - 1) (ang_of (w.ia - 1)) (slope_of (entry_of t.ifob (at - 1)) (entry_of t.ifob at) jfhz)
raw_of t delpen delfx jfhz Cusp w = raw_at t (w.ihigh - 1) (slice_index_or delpen (w.il - 1) nan)
raw_of t delpen delfx jfhz NextCusp360 w = raw_at t w.ihigh (get_or delfx (w.rows - 1) nan ⊕ 0·001)

-- the row's layer (lines 821, 835, 846, 856 to 860)
unfoldable pub next_mode_of : ℕ → Float → ℕ
next_mode_of il second = cond (le second 0·0) 3 (il + 1)

abbrev pub mode_of : Fill → ℕ → Float → ℕ
mode_of Exact il second = il
mode_of Interp il second = il
mode_of Cusp il second = il
mode_of NextCusp360 il second = next_mode_of il second

-- order 2: "1 exact or filled because the lowest entry passes, 2 interpolated, 3 cusp, 4 the row after a cusp"; the Rust has no kind
abbrev pub kind_of : Fill → ℕ
kind_of Exact = 1
kind_of Interp = 2
kind_of Cusp = 3
kind_of NextCusp360 = 4

-- RZ × cos del (line 865)
unfoldable pub rcosd_of : Float → Float
rcosd_of del = RZ ⊗ cos_of del

-- the corrected virtual height (lines 866 to 871)
unfoldable pub high_of : Float → Float → Float → Float → Float → Float
high_of freq fc2 ht fv hp =
    let xfsq = (freq ⊗ freq) ⊘ fc2 in
    let xmut = 1·0 ⊖ ((fv ⊗ fv) ⊘ (freq ⊗ freq)) in
    let xhp = (hp ⊖ ht) ⊘ RZ in
    hp ⊕ (((xfsq ⊗ xmut) ⊗ xhp) ⊗ (ht ⊕ ((2·0 ⊗ (RZ ⊕ ht)) ⊗ xhp)))

-- "Each row then gets the height correction and hop length of the source": the height, and the sine of line 872's phe
unfoldable pub corrected_of : Float → Float → Float → Float → Float → Float → Corrected
corrected_of freq fc2 rcosd ht fv hp =
    let high = high_of freq fc2 ht fv hp in
    record { hp = high; sphe = rcosd ⊘ (RZ ⊕ high) }

-- the hop length (lines 872 to 873)
unfoldable pub hop_of : Float → Float → Float
hop_of del sphe = (2·0 ⊗ RZ) ⊗ ((PIO2 ⊖ del) ⊖ asin_of sphe)

-- line 864: the row's angle in radians
abbrev pub correction_of : Float → Float → Raw → Corrected
correction_of freq fc2 a = corrected_of freq fc2 (rcosd_of (a.del ⊗ D2R)) a.ht a.fv a.hp

-- the row as it is written
abbrev pub row_by : Raw → Corrected → ℕ → ℕ → Row
row_by a m mode kind =
    record { del = a.del; hp = m.hp; ht = a.ht; gdr = hop_of (a.del ⊗ D2R) m.sphe; fv = a.fv; af = a.af; mode = mode; kind = kind }

abbrev pub row_from : Float → Float → ℕ → ℕ → Raw → Row
row_from freq fc2 mode kind a = row_by a (correction_of freq fc2 a) mode kind

-- the row of a fill, whole; delfx as written so far
unfoldable pub row_of : Inputs → List Float → Fill → Walk → Row
row_of e delfx fill w =
    row_from e.freq e.fc2 (mode_of fill w.il e.second) (kind_of fill) (raw_of e.tables e.delpen delfx e.jfhz fill w)

-- lines 877 to 884; il is the walk's layer: at a row after a cusp "it is the old one"
unfoldable pub skip_of : Skip → Row → ℕ → Skip
skip_of s t il =
    cond (lt t.gdr s.dskpkm)
    (record { dskpkm = t.gdr; delskp = t.del; hpskp = t.hp; htskp = t.ht; fvskp = t.fv; iskp = il })
    s

-- lines 885 to 887
unfoldable pub far_of : Float → Float → Float → Float → Float
far_of dmaxkm gdr del amind = cond (le dmaxkm gdr) (cond (le amind del) gdr dmaxkm) dmaxkm

-- the skip figures that a reflectrix holds
abbrev pub skip_in : Reflectrix → Skip
skip_in r =
    record { dskpkm = r.dskpkm; delskp = r.delskp; hpskp = r.hpskp; htskp = r.htskp; fvskp = r.fvskp; iskp = r.iskp }

-- row i (from 0) written, with the skip figures and the farthest hop; the Rust counts i + 1 (lines 888 to 889). delpen stays.
abbrev pub put_of : Reflectrix → ℕ → Row → Skip → Float → Reflectrix
put_of r i t s dmaxkm =
    record {
      delfx = slice_set r.delfx i t.del;
      hpflx = slice_set r.hpflx i t.hp;
      htflx = slice_set r.htflx i t.ht;
      gdflx = slice_set r.gdflx i t.gdr;
      fvflx = slice_set r.fvflx i t.fv;
      afflx = slice_set r.afflx i t.af;
      imode = slice_set r.imode i t.mode;
      kind = slice_set r.kind i t.kind;
      dskpkm = s.dskpkm;
      delskp = s.delskp;
      hpskp = s.hpskp;
      htskp = s.htskp;
      dmaxkm = dmaxkm;
      fvskp = s.fvskp;
      iskp = s.iskp;
      delpen = r.delpen;
      iaftxr = i + 1;
      rows_this_call = i + 1;
    }

abbrev pub put_row : Float → ℕ → ℕ → Reflectrix → Row → Reflectrix
put_row amind i il r t = put_of r i t (skip_of (skip_in r) t il) (far_of r.dmaxkm t.gdr t.del amind)
