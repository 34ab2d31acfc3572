-- Document 01, "Sheets to check": the cases marked P, as rows of one table. A row holds what goes in and what document 01 expects; numbers of type f32 stand by their bits.
use Rattle.std.specs.Prelude.{List, [], ◌∷◌, ◌++◌, map, ℕ, suc, ◌-◌, pos, length, get_or, set, replicate, Float}
use Rattle.std.specs.Float.{binary32, nan}
use Rattle.std.specs.Float.Ieee.{to_bits}
use Rattle.arith.specs.Floats.{f32}
use Rattle.fnorml.specs.Fnorml.{fnorml_of}
use Rattle.sigdis.specs.Prbmuf.{prbmuf_of, refusal_of, left_of}
use Rattle.findf.specs.declared.Reflectrix.{Reflectrix}
use Rattle.fdist.specs.Fdist.{fdist_of}
use Rattle.fdist.specs.declared.Searched.{Searched}
use Rattle.findf.specs.Inputs.{tables_by}
use Rattle.job.specs.Parts.{parts_by}
use Rattle.job.specs.Solved.{Solved, no_slots, solved_of}

-- what a case says of the answer: rows and looks of a walk, angles and figures of its reflectrix, pairs and rays of a search, angles, heights and layers of its slots; a place counts from 0
pub data Field : Type 0 where
  rows looks dskpkm dmaxkm pairs rays : Field
  delpen delfx imode kind delmod hpmod itmod : ℕ → Field

pub data Case : Type 0 where
  -- ypx; the curve there
  fnorml : (ypx curve : ℕ) → Case
  -- fmhz, fgo, fset and il, where all deciles are 1; the chance
  prbmuf : (fmhz fgo fset il chance : ℕ) → Case
  -- a job with all-zero tables but for fvert 10, freq 2, fi's third 1, ghop 0.5 and nang angles
  job : (fvert10 nang : ℕ) → List (Field × ℕ) → Case
  -- rows of these hop lengths, of height 300, angle 10 and with their own numbers as layers; dmaxkm, amind: the search, ghop 0.5, freq 2
  search : (lengths : List ℕ) (dmaxkm amind : ℕ) → List (Field × ℕ) → Case

-- by their bits
abbrev minus_1 : ℕ
minus_1 = 0xbf80_0000

abbrev 3185·0 : ℕ
3185·0 = 0x4547_1000

abbrev 4000·0 : ℕ
4000·0 = 0x457a_0000

abbrev 1000·0 : ℕ
1000·0 = 0x447a_0000

abbrev 5000·0 : ℕ
5000·0 = 0x459c_4000

abbrev 300·0 : ℕ
300·0 = 0x4396_0000

abbrev 10·0 : ℕ
10·0 = 0x4120_0000

-- "row n": one ray, with the angle, the height and the layer of that row (a spot would have other ones)
abbrev row : ℕ → List (Field × ℕ)
row n = (rays, 1) ∷ (delmod 0, 10·0) ∷ (hpmod 0, 300·0) ∷ (itmod 0, n) ∷ []

unfoldable pub cases : List Case
cases =
    -- "`fnorml`(0) = 0.5"
    fnorml 0 0x3f00_0000
    -- "`prbmuf` with fset 0: 1 at fmhz = fgo": 10 MHz, each layer
    ∷ prbmuf 10·0 10·0 0 1 0x3f80_0000
    ∷ prbmuf 10·0 10·0 0 2 0x3f80_0000
    ∷ prbmuf 10·0 10·0 0 3 0x3f80_0000
    ∷ prbmuf 10·0 10·0 0 4 0x3f80_0000
    -- "nang 40: 0 rows, 0 looks, dskpkm −1, dmaxkm −1, heights −1, layers 5"
    ∷ job 0 40
    ((rows, 0) ∷ (looks, 0) ∷ (dskpkm, minus_1) ∷ (dmaxkm, minus_1)
    ∷ (hpmod 0, minus_1) ∷ (hpmod 1, minus_1) ∷ (hpmod 2, minus_1) ∷ (hpmod 3, minus_1) ∷ (hpmod 4, minus_1) ∷ (hpmod 5, minus_1)
    ∷ (itmod 0, 5) ∷ (itmod 1, 5) ∷ (itmod 2, 5) ∷ (itmod 3, 5) ∷ (itmod 4, 5) ∷ (itmod 5, 5) ∷ [])
    -- "fvert 10 = 2, nang 0: delpen 89.9, 90, 90; dskpkm 10000; dmaxkm 0"
    ∷ job 0x4000_0000 0
    ((delpen 0, 0x42b3_cccd) ∷ (delpen 1, 0x42b4_0000) ∷ (delpen 2, 0x42b4_0000) ∷ (dskpkm, 0x461c_4000) ∷ (dmaxkm, 0) ∷ [])
    -- "the same, nang 1: 10 looks, 0 rows; nang 40: 48 looks, 1 row at 89.9, layer 1"
    ∷ job 0x4000_0000 1 ((looks, 10) ∷ (rows, 0) ∷ [])
    -- and by order 2 it is of kind 3, a cusp's: no sentence of document 01
    ∷ job 0x4000_0000 40 ((looks, 48) ∷ (rows, 1) ∷ (delfx 0, 0x42b3_cccd) ∷ (imode 0, 1) ∷ (kind 0, 3) ∷ [])
    -- "lengths 3185, 4000: row 1, 1 pair. 1000, 3185, 4000: row 2, 1 pair. 1000, 1000: row 1. 3185, 3185: none."
    ∷ search (3185·0 ∷ 4000·0 ∷ []) 5000·0 0 (row 1 ++ (pairs, 1) ∷ [])
    ∷ search (1000·0 ∷ 3185·0 ∷ 4000·0 ∷ []) 5000·0 0 (row 2 ++ (pairs, 1) ∷ [])
    ∷ search (1000·0 ∷ 1000·0 ∷ []) 5000·0 0 (row 1)
    ∷ search (3185·0 ∷ 3185·0 ∷ []) 5000·0 0 ((rays, 0) ∷ (hpmod 0, minus_1) ∷ (itmod 0, 5) ∷ [])
    -- "3185, 4000 with amind 12: height −300. dmaxkm 3185: none."
    ∷ search (3185·0 ∷ 4000·0 ∷ []) 5000·0 0x4140_0000 ((rays, 0) ∷ (hpmod 0, 0xc396_0000) ∷ [])
    ∷ search (3185·0 ∷ 4000·0 ∷ []) 3185·0 0 ((rays, 0) ∷ (pairs, 0) ∷ (hpmod 0, minus_1) ∷ (itmod 0, 5) ∷ [])
    ∷ []

-- ---- what goes in

abbrev zeros : ℕ → List Float
zeros n = replicate n (f32 0)

-- 1, 2, .. for as many as xs
unfoldable pub numbered : ℕ → List ℕ → List ℕ
numbered n [] = []
numbered n (x ∷ xs) = suc n ∷ numbered (suc n) xs

-- filled up to 45 rows
abbrev filled_up : {A : Type 0} → List A → A → List A
filled_up xs z = xs ++ replicate (45 - length xs) z

abbrev each : List ℕ → ℕ → List Float
each gs x = filled_up (replicate (length gs) (f32 x)) (f32 0)

-- rows of these lengths in a reflectrix that is all-zero otherwise
unfoldable pub rows_of : List ℕ → ℕ → Reflectrix
rows_of gs far =
    record {
      delfx = each gs 10·0;
      hpflx = each gs 300·0;
      htflx = zeros 45;
      gdflx = filled_up (map f32 gs) (f32 0);
      fvflx = zeros 45;
      afflx = zeros 45;
      imode = filled_up (numbered 0 gs) 0;
      kind = replicate 45 0;
      dskpkm = f32 0;
      delskp = f32 0;
      hpskp = f32 0;
      htskp = f32 0;
      dmaxkm = f32 far;
      fvskp = f32 0;
      iskp = 0;
      delpen = zeros 3;
      iaftxr = 0;
      rows_this_call = 0;
    }

-- freq 2, amind 0, ghop 0.5, point 0
unfoldable pub solved : ℕ → ℕ → Solved
solved fvert10 nang =
    solved_of
    (parts_by 0 nang (f32 0x4000_0000) (f32 0) (f32 0x3f00_0000) (replicate 5 (f32 0 ∷ f32 0 ∷ f32 0x3f80_0000 ∷ [])) (tables_by (set (zeros 30) 9 (f32 fvert10)) (zeros 30) (zeros 30) (zeros 30) (replicate 1200 (pos 0))))

-- ghop 0.5, freq 2: the search alone
abbrev searched : Reflectrix → ℕ → Searched
searched rfx amind = fdist_of no_slots rfx (f32 0x3f00_0000) (f32 amind) (f32 0x4000_0000)

unfoldable pub found : Reflectrix → ℕ → Solved
found rfx amind =
    let s = searched rfx amind in
    record { refusal = s.refusal; looks = 0; pairs = s.pairs; rays = s.rays; rfx = rfx; slots = s.m }

-- ---- what comes out, as words

abbrev bits : Float → ℕ
bits = to_bits binary32

unfoldable pub word : Solved → Field → ℕ
word s rows = s.rfx.rows_this_call
word s looks = s.looks
word s dskpkm = bits s.rfx.dskpkm
word s dmaxkm = bits s.rfx.dmaxkm
word s pairs = s.pairs
word s rays = s.rays
word s (delpen k) = bits (get_or s.rfx.delpen k nan)
word s (delfx k) = bits (get_or s.rfx.delfx k nan)
word s (imode k) = get_or s.rfx.imode k 0
word s (kind k) = get_or s.rfx.kind k 0
word s (delmod k) = bits (get_or s.slots.delmod k nan)
word s (hpmod k) = bits (get_or s.slots.hpmod k nan)
word s (itmod k) = get_or s.slots.itmod k 0

unfoldable pub asked : List (Field × ℕ) → List ℕ
asked [] = []
asked (f ∷ fs) = f.1 ∷ asked fs

unfoldable pub answered : Solved → List (Field × ℕ) → List ℕ
answered s [] = []
answered s (f ∷ fs) = word s f.0 ∷ answered s fs

-- what document 01 expects of a case: a list of words, the number of the refusal first
unfoldable pub expected : Case → List ℕ
expected (fnorml ypx curve) = curve ∷ []
expected (prbmuf fmhz fgo fset il chance) = 0 ∷ chance ∷ []
expected (job fvert10 nang fields) = 0 ∷ asked fields
expected (search lengths far amind fields) = 0 ∷ asked fields

-- what the definitions that the contracts cite give for it, refusal numbers first
unfoldable pub given : Case → List ℕ
given (fnorml ypx curve) = to_bits binary32 (fnorml_of (f32 ypx)) ∷ []
given (prbmuf fmhz fgo fset il chance) =
    let p = prbmuf_of (record { layers = replicate 4 (record { sigl = f32 0x3f80_0000; sigu = f32 0x3f80_0000 }) }) (f32 fmhz) (f32 fgo) (f32 fset) il in
    refusal_of p ∷ to_bits binary32 (left_of p nan) ∷ []
given (job fvert10 nang fields) = let s = solved fvert10 nang in s.refusal ∷ answered s fields
given (search lengths far amind fields) = let s = found (rows_of lengths far) amind in s.refusal ∷ answered s fields
