-- What the printed numbers mean: the text of a whole number and of an f32, as a list of ASCII codes.
use Rattle.std.specs.Prelude.{ℕ, zero, suc, ◌+◌, ◌-◌, ◌*◌, ◌/◌, ◌%◌, ◌^◌, min, Bool, true, false, ◌&&◌, cond, List, [], ◌∷◌, ◌++◌, ltb, leb, eqb, length, replicate}
use Rattle.rounding.specs.declared.Shown.{Shown}
use Rattle.rounding.specs.declared.Shown.TheVariants.{Nan, Infinity, Bound, Number}

-- "Rounded to the nearest, ties to even, from the exact value of the bits, by whole numbers alone."
-- n / p rounded to the nearest whole number, and to the even one where two are as near
abbrev pub nearest : ℕ → ℕ → ℕ
nearest n p = cond (ltb p (2 * (n % p) + (n / p) % 2)) (n / p + 1) (n / p)

-- m * 2 ^ (e - 150) * t, rounded so: the f32 of significand m and exponent field e, in units of 1 / t
abbrev pub units : ℕ → ℕ → ℕ → ℕ
units m e t = cond (ltb e 150) (nearest (m * t) (2 ^ (150 - e))) (m * t * 2 ^ (e - 150))

-- a digit below 16: `0` to `9`, then `A` to `F`
abbrev pub glyph : ℕ → ℕ
glyph d = cond (ltb d 10) (48 + d) (55 + d)

-- the last k digits of n in a base, the most significant first
unfoldable pub digits : ℕ → ℕ → ℕ → List ℕ
digits base zero n = []
digits base (suc k) n = digits base k (n / base) ++ (glyph (n % base) ∷ [])

-- how many decimal digits n has, one at least; `turns` above n are enough
unfoldable pub size_in : ℕ → ℕ → ℕ
size_in zero n = 0
size_in (suc turns) n = cond (ltb n 10) 1 (size_in turns (n / 10) + 1)

unfoldable pub size_of : ℕ → ℕ
size_of n = size_in (suc n) n

-- a whole number
abbrev pub decimal : ℕ → List ℕ
decimal n = digits 10 (size_of n) n

-- n units of 10 ^ -places: "Point, no thousands mark."
abbrev pub point : ℕ → ℕ → List ℕ
point zero n = []
point (suc p) n = 46 ∷ digits 10 (suc p) n

unfoldable pub fixed : ℕ → ℕ → List ℕ
fixed places n = decimal (n / 10 ^ places) ++ point places n

-- "−0, or a negative number that rounds to 0: no minus"
abbrev pub minus : Bool → ℕ → List ℕ
minus below n = cond (below && ltb 0 n) (45 ∷ []) []

unfoldable pub signed : Bool → ℕ → ℕ → List ℕ
signed below places n = minus below n ++ fixed places n

-- an f32 of sign, significand and exponent field, with so many decimals
abbrev pub number_text : Bool → ℕ → ℕ → ℕ → List ℕ
number_text below m e places = signed below places (units m e (10 ^ places))

-- "too long for its columns: a bound that is true: `>9999999`, `<-999999` (nines to the width)"
unfoldable pub bound_text : Bool → ℕ → List ℕ
bound_text below width = cond below (60 ∷ 45 ∷ replicate (width - 2) 57) (62 ∷ replicate (width - 1) 57)

-- "too long for its columns: with fewer decimals; if that is not enough, a bound"
unfoldable pub shown_in : Bool → ℕ → ℕ → ℕ → ℕ → List ℕ
shown_in below m e width zero = cond (leb (length (number_text below m e 0)) width) (number_text below m e 0) (bound_text below width)
shown_in below m e width (suc p) = cond (leb (length (number_text below m e (suc p))) width) (number_text below m e (suc p)) (shown_in below m e width p)

-- the parts of an f32's bits
abbrev pub fraction_of : ℕ → ℕ
fraction_of w = w % 2 ^ 23

abbrev pub exponent_of : ℕ → ℕ
exponent_of w = w / 2 ^ 23 % 2 ^ 8

abbrev pub below_of : ℕ → Bool
below_of w = leb (2 ^ 31) w

-- a number's significand and exponent field: a subnormal has those of field 1, without the leading bit
abbrev pub significand : ℕ → ℕ → ℕ
significand f e = cond (eqb e 0) f (f + 2 ^ 23)

abbrev pub field : ℕ → ℕ
field e = cond (eqb e 0) 1 e

-- the size of an f32 by its bits, in units of 1 / t, rounded so
abbrev pub units_of : ℕ → ℕ → ℕ
units_of w t = units (significand (fraction_of w) (exponent_of w)) (field (exponent_of w)) t

-- NaN, `inf`, `-inf`
abbrev pub named_text : Bool → Bool → List ℕ
named_text nan below = cond nan (78 ∷ 97 ∷ 78 ∷ []) (cond below (45 ∷ 105 ∷ 110 ∷ 102 ∷ []) (105 ∷ 110 ∷ 102 ∷ []))

-- from 2 ^ 49 on a number is always shown by its bound: it has 15 digits, and no field of the sheet has 15 columns
abbrev pub far_of : ℕ → Bool
far_of e = ltb 175 e

-- the text of an f32 by its bits, in at most `width` columns, with at most `places` decimals, of which there are never more than 3
unfoldable pub float_text : ℕ → ℕ → ℕ → List ℕ
float_text w places width =
    let f = fraction_of w in
    let e = exponent_of w in
    cond (eqb e 255) (named_text (ltb 0 f) (below_of w))
    (cond (far_of e) (bound_text (below_of w) width)
    (shown_in (below_of w) (significand f e) (field e) width (min places 3)))

-- a text right in so many columns
abbrev pub right_in : ℕ → List ℕ → List ℕ
right_in width s = replicate (width - length s) 32 ++ s

-- a whole number of tenths: `12`, `12.3`
unfoldable pub tenths_text : ℕ → List ℕ
tenths_text n = cond (eqb (n % 10) 0) (decimal (n / 10)) (fixed 1 n)

-- the same by cases: what is to be shown, and its text
abbrev pub text_of : ℕ → Shown → List ℕ
text_of width Nan = named_text true false
text_of width (Infinity below) = named_text false below
text_of width (Bound below) = bound_text below width
text_of width (Number below n places) = signed below (min places 3) n
