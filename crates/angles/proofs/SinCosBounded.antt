-- The parts of the sine and of the cosine rise with the angle, so a test at the ends of a few intervals shows that they differ by less than 1.75 at every angle up to 4. Assumes nothing.
use Rattle.std.proofs.Common.{◌≡◌, ℕ, ◌+◌, ◌*◌, ◌/◌, ◌^◌, ◌<◌, ◌≤◌, Bool, true, ◌&&◌, T, ltb, List, [], ◌∷◌, sym, refl, subst, zero-le, le_refl, lt_of_lt_of_le, lt_of_le_of_lt, le_of_lt, add-le-add, lt_irrefl, mul-le-mul_right, mul-le-mul, le_antisymm, lt_of_not-le, lit<, lit≤, ltb→lt}
use native.Mathlib.Decide.{dec_le}
use lib.Ieee.Fits.{and_l, and_r}
use lib.Ieee.Nearest.{div_mono}
use Rattle.angles.specs.Series.{mh, fixed, power, square, cube, d24, d25, sin_plus_terms, sin_minus_terms, cos_plus_terms, cos_minus_terms, sin_plus, sin_minus, cos_plus, cos_minus}

-- ---- the parts rise with the angle
pub mh_mono : (a b c d : ℕ) → a ≤ c → b ≤ d → mh a b ≤ mh c d
mh_mono a b c d h k = div_mono (a * b) (2 ^ 64) (c * d) (2 ^ 64) (lit< tt) (lit< tt) (mul-le-mul_right (2 ^ 64) (mul-le-mul h k))

pub fixed_mono : (d f : ℕ) (cs : List ℕ) (v w : ℕ) → v ≤ w → fixed d f cs v ≤ fixed d f cs w
unfolding fixed
fixed_mono d f [] v w h = le_refl 0
fixed_mono d f (c ∷ []) v w h = le_refl (f * c / d)
fixed_mono d f (c ∷ (c' ∷ cs)) v w h = add-le-add (le_refl (f * c / d)) (mh_mono v (fixed d (512 * f) (c' ∷ cs) v) w (fixed d (512 * f) (c' ∷ cs) w) h (fixed_mono d (512 * f) (c' ∷ cs) v w h))

pub square_mono : (n k : ℕ) → n ≤ k → square n ≤ square k
square_mono n k h = mh_mono n n k k h h

pub power_mono : (n k : ℕ) → n ≤ k → power n ≤ power k
power_mono n k h = mul-le-mul_right 8 (mh_mono (square n) (square n) (square k) (square k) (square_mono n k h) (square_mono n k h))

pub cube_mono : (n k : ℕ) → n ≤ k → cube n ≤ cube k
cube_mono n k h = mul-le-mul_right 4 (mh_mono n (square n) k (square k) h (square_mono n k h))

abbrev Rises : (ℕ → ℕ) → Type 0
Rises f = (n k : ℕ) → n ≤ k → f n ≤ f k

sin_plus_rises : Rises sin_plus
unfolding sin_plus
sin_plus_rises n k h = mh_mono n (fixed d25 (2 ^ 60) sin_plus_terms (power n)) k (fixed d25 (2 ^ 60) sin_plus_terms (power k)) h (fixed_mono d25 (2 ^ 60) sin_plus_terms (power n) (power k) (power_mono n k h))

sin_minus_rises : Rises sin_minus
unfolding sin_minus
sin_minus_rises n k h = mh_mono (cube n) (fixed d25 (2 ^ 64) sin_minus_terms (power n)) (cube k) (fixed d25 (2 ^ 64) sin_minus_terms (power k)) (cube_mono n k h) (fixed_mono d25 (2 ^ 64) sin_minus_terms (power n) (power k) (power_mono n k h))

-- the cosine's parts at an angle
abbrev cos_added : ℕ → ℕ
cos_added n = cos_plus (power n)

abbrev cos_taken : ℕ → ℕ
cos_taken n = cos_minus (square n) (power n)

cos_plus_rises : Rises cos_added
unfolding cos_plus
cos_plus_rises n k h = fixed_mono d24 (2 ^ 57) cos_plus_terms (power n) (power k) (power_mono n k h)

cos_minus_rises : Rises cos_taken
unfolding cos_minus
cos_minus_rises n k h = mh_mono (square n) (fixed d24 (2 ^ 63) cos_minus_terms (power n)) (square k) (fixed d24 (2 ^ 63) cos_minus_terms (power k)) (square_mono n k h) (fixed_mono d24 (2 ^ 63) cos_minus_terms (power n) (power k) (power_mono n k h))

-- ---- two rising functions of an angle, compared at the ends of intervals, in units of 2 ^ -13
abbrev pub Differ : ℕ → ℕ → Type 0
Differ p m = (p < m + 7 * 2 ^ 55) × (m < p + 7 * 2 ^ 55)

-- so a u32 holds the difference in units of 2 ^ -30
pub differ_wide : (p m : ℕ) → Differ p m → (p < m + 2 ^ 59) × (m < p + 2 ^ 59)
differ_wide p m d = (lt_of_lt_of_le d.0 (add-le-add (le_refl m) (lit≤ tt)), lt_of_lt_of_le d.1 (add-le-add (le_refl p) (lit≤ tt)))

differ : ℕ → ℕ → ℕ → ℕ → Bool
differ p m p' m' = ltb p' (m + 7 * 2 ^ 55) && ltb m' (p + 7 * 2 ^ 55)

unfoldable compared : (ℕ → ℕ) → (ℕ → ℕ) → ℕ → List ℕ → Bool
unfolding differ
compared p m u [] = true
compared p m u (w ∷ us) = differ (p (u * 2 ^ 48)) (m (u * 2 ^ 48)) (p (w * 2 ^ 48)) (m (w * 2 ^ 48)) && compared p m w us

last : ℕ → List ℕ → ℕ
last u [] = u
last u (w ∷ us) = last w us

module _ (p m : ℕ → ℕ) (p-rises : Rises p) (m-rises : Rises m) where
  between : (u w n : ℕ) → T (differ (p u) (m u) (p w) (m w)) → u ≤ n → n ≤ w → Differ (p n) (m n)
  unfolding differ
  between u w n t h k =
      let a : Bool = ltb (p w) (m u + 7 * 2 ^ 55) in
      let b : Bool = ltb (m w) (p u + 7 * 2 ^ 55) in (
        lt_of_le_of_lt (p-rises n w k) (lt_of_lt_of_le (ltb→lt (p w) (m u + 7 * 2 ^ 55) (and_l a b t)) (add-le-add (m-rises u n h) (le_refl (7 * 2 ^ 55)))),
        lt_of_le_of_lt (m-rises n w k) (lt_of_lt_of_le (ltb→lt (m w) (p u + 7 * 2 ^ 55) (and_r a b t)) (add-le-add (p-rises u n h) (le_refl (7 * 2 ^ 55)))),
      )

  inside : (u : ℕ) (us : List ℕ) (n : ℕ) → T (compared p m u us) → u * 2 ^ 48 ≤ n → n < last u us * 2 ^ 48 → Differ (p n) (m n)
  unfolding compared last
  inside u [] n t h k = absurd (lt_irrefl n (lt_of_lt_of_le k h))
  inside u (w ∷ us) n t h k = go (dec_le (w * 2 ^ 48) n) (λ (d : w * 2 ^ 48 ≤ n). inside w us n (and_r here (compared p m w us) t) d k)
    where
      here : Bool
      here = differ (p (u * 2 ^ 48)) (m (u * 2 ^ 48)) (p (w * 2 ^ 48)) (m (w * 2 ^ 48))

      go : Dec (w * 2 ^ 48 ≤ n) → (w * 2 ^ 48 ≤ n → Differ (p n) (m n)) → Differ (p n) (m n)
      go (yes d) later = later d
      go (no f) later = between (u * 2 ^ 48) (w * 2 ^ 48) n (and_l here (compared p m w us) t) h (le_of_lt (lt_of_not-le f))

  to_four : (us : List ℕ) → last 0 us ≡ 2 ^ 15 → T (compared p m 0 us) → Differ (p (2 ^ 63)) (m (2 ^ 63)) → (n : ℕ) → n ≤ 2 ^ 63 → Differ (p n) (m n)
  to_four us e t top n h = go (dec_le (2 ^ 63) n)
    where
      go : Dec (2 ^ 63 ≤ n) → Differ (p n) (m n)
      go (yes d) = subst (λ (x : ℕ). Differ (p x) (m x)) (le_antisymm d h) top
      go (no f) = inside 0 us n t zero-le (subst (λ (x : ℕ). n < x * 2 ^ 48) (sym e) (lt_of_not-le f))

abbrev sin_ends : List ℕ
sin_ends = 13503 ∷ 17471 ∷ 20728 ∷ 23620 ∷ 26189 ∷ 28071 ∷ 29431 ∷ 30492 ∷ 31361 ∷ 32097 ∷ 32737 ∷ 32768 ∷ []

abbrev cos_ends : List ℕ
cos_ends = 16829 ∷ 20561 ∷ 22635 ∷ 24137 ∷ 25353 ∷ 26401 ∷ 27340 ∷ 28204 ∷ 29014 ∷ 29783 ∷ 30520 ∷ 31231 ∷ 31921 ∷ 32592 ∷ 32768 ∷ []

sin_ends_hold : T (compared sin_plus sin_minus 0 sin_ends)
unfolding compared differ sin_plus sin_minus fixed
sin_ends_hold = tt

cos_ends_hold : T (compared cos_added cos_taken 0 cos_ends)
unfolding compared differ cos_plus cos_minus fixed
cos_ends_hold = tt

sin_top : Differ (sin_plus (2 ^ 63)) (sin_minus (2 ^ 63))
unfolding sin_plus sin_minus fixed
sin_top = (lit< tt, lit< tt)

cos_top : Differ (cos_added (2 ^ 63)) (cos_taken (2 ^ 63))
unfolding cos_plus cos_minus fixed
cos_top = (lit< tt, lit< tt)

pub sin_differ : (n : ℕ) → n ≤ 2 ^ 63 → Differ (sin_plus n) (sin_minus n)
unfolding last
sin_differ = to_four sin_plus sin_minus sin_plus_rises sin_minus_rises sin_ends refl sin_ends_hold sin_top

pub cos_differ : (n : ℕ) → n ≤ 2 ^ 63 → Differ (cos_plus (power n)) (cos_minus (square n) (power n))
unfolding last
cos_differ = to_four cos_added cos_taken cos_plus_rises cos_minus_rises cos_ends refl cos_ends_hold cos_top
