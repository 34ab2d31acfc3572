-- The chance that a frequency is usable against a layer's distribution (sigdis.rs, lines 56 to 79).
use Rattle.std.specs.Prelude.{ℕ, ◌-◌, cond, get_or, Result, Ok, Err, Float}
use Rattle.std.specs.Float.{nan}
use Rattle.std.specs.Float.Ieee.{lt, le}
use Rattle.arith.specs.Floats.{◌⊖◌, ◌⊗◌, ◌⊘◌, max_of}
use Rattle.arith.specs.Numbers.{0·0, 0·001, 1·0}
use Rattle.limits.specs.declared.Refusal.{Refusal}
use Rattle.limits.specs.declared.Refusal.TheVariants.{Layer}
use Rattle.limits.specs.Limits.{layer_within, code_of}
use Rattle.fnorml.specs.Fnorml.{tail_of, size_of}
use Rattle.sigdis.specs.declared.LayerMuf.{LayerMuf}
use Rattle.sigdis.specs.declared.MufHour.{MufHour}

-- lines 62 to 68
unfoldable pub spread_of : LayerMuf → Float → Float → Float → Float
spread_of layer z fgo fset = max_of (cond (le z 0·0) (fgo ⊗ layer.sigl ⊘ fset) (fgo ⊗ layer.sigu ⊘ fset)) 0·001

-- lines 70 to 78
unfoldable pub side_of : Float → Float
side_of z = cond (lt z 0·0) (1·0 ⊖ tail_of (size_of z)) (tail_of (size_of z))

-- lines 58 to 61, 69
unfoldable pub chance_of : LayerMuf → Float → Float → Float → Float
chance_of layer fmhz fgo fset =
    let z = fmhz ⊖ fgo in
    cond (le fset 0·0) (cond (le z 0·0) 1·0 0·0) (side_of (z ⊘ spread_of layer z fgo fset))

-- the chance, or the limit that refuses
abbrev pub Probability : Type 0
Probability = Result Float Refusal

-- Document 01: "Limit 13 is checked before anything else in `prbmuf`".
unfoldable pub prbmuf_of : MufHour → Float → Float → Float → ℕ → Probability
prbmuf_of hour fmhz fgo fset il =
    cond (layer_within il) (Ok (chance_of (get_or hour.layers (il - 1) (record { sigl = nan; sigu = nan })) fmhz fgo fset)) (Err Layer)

-- document 01's number of each case, and what a place that holds old has after it
abbrev pub refusal_of : Probability → ℕ
refusal_of = code_of

abbrev pub left_of : Probability → Float → Float
left_of (Ok p) old = p
left_of (Err refusal) old = old
