-- A number on the command line: `12`, `12.5`, `12.345`. One digit or more, then perhaps a point and one to three digits; below a million; nothing else.
use Rattle.std.specs.Prelude.{ℕ, ◌+◌, ◌-◌, ◌*◌, cond, List, [], ◌∷◌, ltb, eqb, Option, Some, None, option_and_then, option_map}
use Rattle.parse.specs.declared.text.Read.{Read}
use Rattle.parse.specs.declared.text.Read.TheVariants.{Nothing, Whole, Point, Tenths, Hundredths, Thousandths}

-- a point stands behind the whole part, once
abbrev pub point_of : Read → Option Read
point_of Nothing = None
point_of (Whole n) = Some (Point n)
point_of (Point n) = None
point_of (Tenths n) = None
point_of (Hundredths n) = None
point_of (Thousandths n) = None

-- the digits n and a digit d behind them, nine at most
abbrev pub behind : ℕ → ℕ → Option ℕ
behind n d = cond (ltb n 100000000) (Some (10 * n + d)) None

-- a digit goes behind those read
abbrev pub digit_of : Read → ℕ → Option Read
digit_of Nothing d = Some (Whole d)
digit_of (Whole n) d = option_map Whole (behind n d)
digit_of (Point n) d = option_map Tenths (behind n d)
digit_of (Tenths n) d = option_map Hundredths (behind n d)
digit_of (Hundredths n) d = option_map Thousandths (behind n d)
digit_of (Thousandths n) d = None

-- one byte more: a point is 46, the digits are 48 to 57
abbrev pub step_of : Read → ℕ → Option Read
step_of r b = cond (eqb b 46) (point_of r) (cond (ltb b 48) None (cond (ltb 57 b) None (digit_of r (b - 48))))

-- a text, read from its first byte to its last
unfoldable pub read_from : Read → List ℕ → Option Read
read_from r [] = Some r
read_from r (b ∷ s) = option_and_then (λ q. read_from q s) (step_of r b)

abbrev pub read_of : List ℕ → Option Read
read_of s = read_from Nothing s

-- so many thousandths, where that is below a million
abbrev pub below_of : ℕ → Option ℕ
below_of n = cond (ltb n 1000000000) (Some n) None

abbrev pub value_of : Read → Option ℕ
value_of Nothing = None
value_of (Whole n) = below_of (1000 * n)
value_of (Point n) = None
value_of (Tenths n) = below_of (100 * n)
value_of (Hundredths n) = below_of (10 * n)
value_of (Thousandths n) = below_of n

-- what a text says, in thousandths
abbrev pub number_of : List ℕ → Option ℕ
number_of s = option_and_then value_of (read_of s)
