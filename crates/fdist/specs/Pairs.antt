-- What one tried pair gives (modes.rs lines 934 to 980; document 01, "A pair gives nothing, a row as it is, or a spot between with its two distances").
-- Rows and pairs count from 0: pair i is rows i and i + 1, whose hop lengths are g1 and g2; d is the asked length.
use Rattle.std.specs.Prelude.{ℕ, ◌+◌, Bool, true, false, cond, Float}
use Rattle.std.specs.Float.Ieee.{lt, le, eq}
use Rattle.arith.specs.Floats.{◌⊖◌, abs_of}
use Rattle.arith.specs.Numbers.{0·001}
use Rattle.fdist.specs.declared.pairs.Pair.{Pair}
use Rattle.fdist.specs.declared.pairs.Pair.TheVariants.{Nothing, Row, Spot}

-- 963 and 997: within 0.001, as f32 arithmetic has it
abbrev pub near : Float → Bool
near x = le (abs_of x) 0·001

-- 996 to 1005: the spot with dth and dth2, or the first row where the two lengths are within 0.001
unfoldable pub between_of : ℕ → Float → Float → Float → Pair
between_of i g1 g2 d = cond (near (g2 ⊖ g1)) (Row i) (Spot (d ⊖ g1) (g2 ⊖ g1))

-- 944 to 957
unfoldable pub rising_of : ℕ → Float → Float → Float → Pair
rising_of i g1 g2 d =
    cond (lt g1 d)
    (cond (lt d g2) (between_of i g1 g2 d) (cond (eq d g2) (Row (i + 1)) Nothing))
    (cond (eq g1 d) (Row i) Nothing)

-- 958 to 966: "Equal lengths give the first row if d is more than 0.001 away, else nothing."
unfoldable pub equal_of : ℕ → Float → Float → Pair
equal_of i g d = cond (near (d ⊖ g)) Nothing (Row i)

-- 968 to 979
unfoldable pub falling_of : ℕ → Float → Float → Float → Pair
falling_of i g1 g2 d = cond (lt g1 d) Nothing (cond (eq g1 d) (Row i) (cond (lt d g2) Nothing (cond (eq d g2) (Row (i + 1)) (between_of i g1 g2 d))))

-- 943 to 980: the rule
unfoldable pub pair_of : ℕ → Float → Float → Float → Pair
pair_of i g1 g2 d = cond (lt g1 g2) (rising_of i g1 g2 d) (cond (eq g1 g2) (equal_of i g1 d) (falling_of i g1 g2 d))

-- 927 and 985, the pair that is tried next: after a row as it is, the pair that begins with the row after it; so a second row jumps the pair that it begins
abbrev pub next_of : ℕ → Pair → ℕ
next_of i Nothing = i + 1
next_of i (Row k) = k + 1
next_of i (Spot dth dth2) = i + 1

-- does the pair give a spot between its rows?
abbrev pub is_spot : Pair → Bool
is_spot Nothing = false
is_spot (Row k) = false
is_spot (Spot dth dth2) = true
