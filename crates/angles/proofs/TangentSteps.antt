-- How much the sine series rises and the cosine series falls a half step, as far as the arctangent needs it. Assumes nothing.
use Rattle.std.proofs.Common.{ℕ, ◌+◌, ◌*◌, ◌^◌, ◌<◌, ◌≤◌, List, [], ◌∷◌, zero-le, le_refl}
use Rattle.angles.specs.Series.{sum_of, d24, sin_up, sin_down, cos_up, cos_down}
use Rattle.angles.proofs.Intervals.{apart, last}
use Rattle.angles.proofs.Slopes.{fall_of, rise_of, sin_rises, cos_falls}
use Rattle.angles.proofs.Steps.{SlopeEnds, FallEnds, slope_above, fall_above}

-- the half step from which the cosine's fall is used, 1.2
abbrev pub bend : ℕ
bend = 10066330

-- 24! * (2 ^ 23) ^ 24 / 4
abbrev pub quarter : ℕ
quarter = d24 * 2 ^ 550

low_end : SlopeEnds (λ (a : ℕ). quarter) 0 (bend ∷ [])
unfolding apart cos_up cos_down sum_of
low_end = tt

-- below it the sine series rises by at least 2 ^ -25 a half step
pub sine_climbs : (a : ℕ) → a < bend → sin_up a (2 ^ 23) + sin_down (a + 1) (2 ^ 23) + 25 * quarter ≤ sin_up (a + 1) (2 ^ 23) + sin_down a (2 ^ 23)
unfolding last
sine_climbs a h = sin_rises a (2 ^ 23) quarter (slope_above (λ (x : ℕ). quarter) (λ (x : ℕ) (y : ℕ) (m : x ≤ y). le_refl quarter) 0 (bend ∷ []) a low_end zero-le h)

-- 24! * (2 ^ 23) ^ 24 * 3 / 4 / 2 ^ 23
abbrev pub three_quarters : ℕ
three_quarters = d24 * 3 * 2 ^ 527

abbrev high_ends : List ℕ
high_ends = 11839172 ∷ 13176794 ∷ []

high_ends_hold : FallEnds (λ (a : ℕ). three_quarters) (λ (a : ℕ). 0) bend high_ends
unfolding apart fall_of rise_of sum_of
high_ends_hold = tt

-- from it on the cosine series falls by at least 3/4 * 2 ^ -23 a half step
pub cosine_plunges : (a : ℕ) → bend ≤ a → a < 13176794 → cos_up (a + 1) (2 ^ 23) + cos_down a (2 ^ 23) + three_quarters ≤ cos_up a (2 ^ 23) + cos_down (a + 1) (2 ^ 23)
unfolding last
cosine_plunges a h k =
    cos_falls a (2 ^ 23) three_quarters
    (fall_above (λ (x : ℕ). three_quarters) (λ (x : ℕ). 0) (λ (x : ℕ) (y : ℕ) (m : x ≤ y). le_refl three_quarters) (λ (x : ℕ) (y : ℕ) (m : x ≤ y). le_refl 0) bend high_ends a high_ends_hold h k)
