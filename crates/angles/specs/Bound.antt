-- What is asked of the arcs: "The answer lies within -2 to 4. Moved by [w steps of 2 ^ -22] down and up, it has its sine, cosine or tangent on the two sides of the argument. A moved angle is
-- dropped if its cosine series (for arccosine its sine series) is not above 0; at most one of the two is dropped. NaN gives NaN."
use Rattle.std.specs.Prelude.{◌≡◌, ℕ, ◌+◌, ◌-◌, ◌*◌, ◌^◌, ◌<◌, ◌≤◌, Bool, true, false, cond, not, ◌⊎◌, nat_le, Float}
use Rattle.std.specs.Float.{nan, inf, fin}
use Rattle.std.specs.Float.Ieee.{up, down}
use Rattle.std.specs.Float.Ieee.Exact.{HasValue}
use Rattle.angles.specs.Series.{sin_up, sin_down, sin_den, cos_up, cos_down, cos_den}

-- ---- angles of the grid: a sign, true below 0, and a number of steps of 2 ^ -22
abbrev pub Angle : Type 0
Angle = Bool × ℕ

-- moved by w steps towards 0 and beyond, up, and down
abbrev pub towards : ℕ → Angle → Angle
towards w (s, k) = cond (nat_le w k) (s, k - w) (not s, w - k)

abbrev pub raised : ℕ → Angle → Angle
raised w (false, k) = (false, k + w)
raised w (true, k) = towards w (true, k)

abbrev pub lowered : ℕ → Angle → Angle
lowered w (false, k) = towards w (false, k)
lowered w (true, k) = (true, k + w)

abbrev pub InRange : Angle → Type 0
InRange (false, k) = k ≤ 4 * 2 ^ 22
InRange (true, k) = k ≤ 2 * 2 ^ 22

-- ---- the series at an angle: k steps are 2 k half steps of 2 ^ -23

-- the fraction (plus - minus) / den is at most, at least, the number x / y, negated where t is true
abbrev pub AtMost : (plus minus den : ℕ) → Bool → (x y : ℕ) → Type 0
AtMost plus minus den false x y = plus * y ≤ minus * y + x * den
AtMost plus minus den true x y = plus * y + x * den ≤ minus * y

abbrev pub AtLeast : (plus minus den : ℕ) → Bool → (x y : ℕ) → Type 0
AtLeast plus minus den false x y = x * den + minus * y ≤ plus * y
AtLeast plus minus den true x y = minus * y ≤ plus * y + x * den

-- the sine series is odd: below 0 what is added and what is taken away change places
abbrev pub sin_added : Angle → ℕ
sin_added (false, k) = sin_up (2 * k) (2 ^ 23)
sin_added (true, k) = sin_down (2 * k) (2 ^ 23)

abbrev pub sin_taken : Angle → ℕ
sin_taken (false, k) = sin_down (2 * k) (2 ^ 23)
sin_taken (true, k) = sin_up (2 * k) (2 ^ 23)

-- the cosine series is even
abbrev pub cos_added : Angle → ℕ
cos_added (s, k) = cos_up (2 * k) (2 ^ 23)

abbrev pub cos_taken : Angle → ℕ
cos_taken (s, k) = cos_down (2 * k) (2 ^ 23)

abbrev pub SinePositive : Angle → Type 0
SinePositive a = sin_taken a < sin_added a

abbrev pub CosinePositive : Angle → Type 0
CosinePositive a = cos_taken a < cos_added a

-- the tangent, sine / cosine, is at most, at least, the number x / y, negated where t is true, cross-multiplied: y times the sine series against x times the cosine series. 1 / 0 is infinity
abbrev sine_times : ℕ → ℕ → ℕ
sine_times s y = s * (cos_den (2 ^ 23) * y)

abbrev cosine_times : ℕ → ℕ → ℕ
cosine_times c x = c * (sin_den (2 ^ 23) * x)

abbrev pub TangentAtMost : Angle → Bool → (x y : ℕ) → Type 0
TangentAtMost a false x y = sine_times (sin_added a) y + cosine_times (cos_taken a) x ≤ sine_times (sin_taken a) y + cosine_times (cos_added a) x
TangentAtMost a true x y = sine_times (sin_added a) y + cosine_times (cos_added a) x ≤ sine_times (sin_taken a) y + cosine_times (cos_taken a) x

abbrev pub TangentAtLeast : Angle → Bool → (x y : ℕ) → Type 0
TangentAtLeast a false x y = sine_times (sin_taken a) y + cosine_times (cos_added a) x ≤ sine_times (sin_added a) y + cosine_times (cos_taken a) x
TangentAtLeast a true x y = sine_times (sin_taken a) y + cosine_times (cos_taken a) x ≤ sine_times (sin_added a) y + cosine_times (cos_added a) x

-- ---- an answer

-- moved down and up by w steps, a kept angle has its series on that side of the argument, and one of the two is kept
pub record OnBothSides (kept under over : Angle → Type 0) (w : ℕ) (a : Angle) : Type 0 where
  pub at_lowered : kept (lowered w a) → under (lowered w a)
  pub at_raised : kept (raised w a) → over (raised w a)
  pub one_kept : kept (lowered w a) ⊎ kept (raised w a)

pub record Answer (asked : Angle → Type 0) (r : Float) : Type 0 where
  pub angle : Angle
  pub value : HasValue r angle.0 angle.1 (2 ^ 22)
  pub in_range : InRange angle
  pub as_asked : asked angle

-- every f32 with its answer r: asked t x y a is what is asked of the angle a for the number x / y, negated where t is true. NaN beyond -1 to 1, at the infinities and at NaN
abbrev pub UpToOne : (asked : Bool → ℕ → ℕ → Angle → Type 0) → Float → Float → Type 0
UpToOne asked nan r = r ≡ nan
UpToOne asked (inf s) r = r ≡ nan
UpToOne asked (fin s m e) r = (m * up e ≤ down e → Answer (asked s (m * up e) (down e)) r) × (down e < m * up e → r ≡ nan)

-- "arctangent of any number, infinity included"
abbrev pub EveryNumber : (asked : Bool → ℕ → ℕ → Angle → Type 0) → Float → Float → Type 0
EveryNumber asked nan r = r ≡ nan
EveryNumber asked (inf s) r = Answer (asked s 1 0) r
EveryNumber asked (fin s m e) r = Answer (asked s (m * up e) (down e)) r

-- ---- of the arcsine, of the arccosine and of the arctangent, at a width of w steps
abbrev pub ArcsineAsked : ℕ → Bool → ℕ → ℕ → Angle → Type 0
ArcsineAsked w t x y = OnBothSides CosinePositive (λ (a : Angle). AtMost (sin_added a) (sin_taken a) (sin_den (2 ^ 23)) t x y) (λ (a : Angle). AtLeast (sin_added a) (sin_taken a) (sin_den (2 ^ 23)) t x y) w

abbrev pub ArccosineAsked : ℕ → Bool → ℕ → ℕ → Angle → Type 0
ArccosineAsked w t x y = OnBothSides SinePositive (λ (a : Angle). AtLeast (cos_added a) (cos_taken a) (cos_den (2 ^ 23)) t x y) (λ (a : Angle). AtMost (cos_added a) (cos_taken a) (cos_den (2 ^ 23)) t x y) w

abbrev pub ArctangentAsked : ℕ → Bool → ℕ → ℕ → Angle → Type 0
ArctangentAsked w t x y = OnBothSides CosinePositive (λ (a : Angle). TangentAtMost a t x y) (λ (a : Angle). TangentAtLeast a t x y) w
