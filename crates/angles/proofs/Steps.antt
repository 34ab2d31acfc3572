-- From each half step, of 2 ^ -23, to the next: the sine series rises by at least so much up to its top, and the cosine series falls by at least so much up to its bottom. Each is a test that
-- antt computes, at the ends of a few intervals. Assumes nothing.
use Rattle.std.proofs.Common.{◌≡◌, ℕ, ◌+◌, ◌-◌, ◌*◌, ◌^◌, ◌<◌, ◌≤◌, T, leb, List, [], ◌∷◌, ap, ◌∙◌, subst, zero-le, le_trans, le_of_eq, le_refl, lt_of_lt_of_le, le-add_right, add-zero, add-le-add, mul-le-mul_left, lt_of_not-le, zero-add, arith, lit<}
use native.Mathlib.Decide.{dec_le}
use Rattle.angles.specs.Series.{sum_of, d24, sin_up, sin_down, cos_up, cos_down}
use Rattle.angles.proofs.Intervals.{Rising, Sinking, apart, apart_at, last, every, every_le}
use Rattle.angles.proofs.Slopes.{fall_of, rise_of, cos_up_mono, cos_down_mono, fall_of_mono, rise_of_mono, sin_rises, cos_falls, sin_above_0}

constant : (g : ℕ) → Sinking (λ (a : ℕ). g)
constant g a c h = le_refl g

-- ---- the sine rises

-- the cosine series is at least g, over its denominator, from u to the last of the ends
abbrev pub SlopeEnds : (ℕ → ℕ) → ℕ → List ℕ → Type 0
SlopeEnds g u us = T (apart (λ (a : ℕ). cos_up a (2 ^ 23)) g (λ (a : ℕ). cos_down a (2 ^ 23)) u us)

pub slope_above : (g : ℕ → ℕ) → Sinking g → (u : ℕ) (us : List ℕ) (a : ℕ) → SlopeEnds g u us → u ≤ a → a < last u us → cos_down (a + 1) (2 ^ 23) + g a ≤ cos_up a (2 ^ 23)
slope_above g G u us a t h k = apart_at (λ (x : ℕ). cos_up x (2 ^ 23)) g (λ (x : ℕ). cos_down x (2 ^ 23)) (λ (x : ℕ) (y : ℕ) (l : x ≤ y). cos_up_mono x y (2 ^ 23) l) G (λ (x : ℕ) (y : ℕ) (l : x ≤ y). cos_down_mono x y (2 ^ 23) l) u us a t h k

-- by 2 ^ -50 to the last below its top: 24! * (2 ^ 23) ^ 24 / 2 ^ 27
abbrev pub least_half : ℕ
least_half = d24 * 2 ^ 525

abbrev half_ends : List ℕ
half_ends = 11799259 ∷ 12703724 ∷ 12998780 ∷ 13107832 ∷ 13149792 ∷ 13166178 ∷ 13172614 ∷ 13175147 ∷ 13176145 ∷ 13176538 ∷ 13176693 ∷ 13176754 ∷ 13176778 ∷ 13176788 ∷ 13176791 ∷ 13176793 ∷ []

half_ends_hold : SlopeEnds (λ (a : ℕ). least_half) 0 half_ends
unfolding apart cos_up cos_down sum_of
half_ends_hold = tt

half_slope : (a : ℕ) → a < 13176793 → cos_down (a + 1) (2 ^ 23) + least_half ≤ cos_up a (2 ^ 23)
unfolding last
half_slope a h = slope_above (λ (x : ℕ). least_half) (constant least_half) 0 half_ends a half_ends_hold zero-le h

pub half_rises : (a : ℕ) → a < 13176793 → sin_up a (2 ^ 23) + sin_down (a + 1) (2 ^ 23) + 25 * least_half ≤ sin_up (a + 1) (2 ^ 23) + sin_down a (2 ^ 23)
half_rises a h = sin_rises a (2 ^ 23) least_half (half_slope a h)

-- by a line, for a check that evaluates once: up to 13174000 half steps the slope is at least 5/8 of what is left to 13176794. 24! * (2 ^ 23) ^ 24 * 5 / 8 / 2 ^ 23
abbrev pub line_unit : ℕ
line_unit = d24 * 5 * 2 ^ 526

abbrev line_ends : List ℕ
line_ends = 1602741 ∷ 4402099 ∷ 7007598 ∷ 8867498 ∷ 10113282 ∷ 10956593 ∷ 11542335 ∷ 11959115 ∷ 12261489 ∷ 12484171 ∷ 12650044 ∷ 12774674 ∷ 12868935 ∷ 12940585 ∷ 12995257 ∷ 13037096 ∷ 13069187 ∷ 13093844 ∷ 13112814 ∷ 13127424 ∷ 13138684 ∷ 13147368 ∷ 13154069 ∷ 13159241 ∷ 13163234 ∷ 13166318 ∷ 13168700 ∷ 13170540 ∷ 13171961 ∷ 13173059 ∷ 13173908 ∷ 13174000 ∷ []

line_ends_hold : SlopeEnds (λ (a : ℕ). line_unit * (13176794 - a)) 0 line_ends
unfolding apart cos_up cos_down sum_of
line_ends_hold = tt

what_is_left : (u K : ℕ) → Sinking (λ (a : ℕ). u * (K - a))
what_is_left u K a c h = mul-le-mul_left u (less K a c h)
  where
    less : (K a c : ℕ) → a ≤ c → K - c ≤ K - a
    less K a c h = omega arith

pub line_rises : (a : ℕ) → a < 13174000 → sin_up a (2 ^ 23) + sin_down (a + 1) (2 ^ 23) + 25 * (line_unit * (13176794 - a)) ≤ sin_up (a + 1) (2 ^ 23) + sin_down a (2 ^ 23)
unfolding last
line_rises a h = sin_rises a (2 ^ 23) (line_unit * (13176794 - a)) (slope_above (λ (x : ℕ). line_unit * (13176794 - x)) (what_is_left line_unit 13176794) 0 line_ends a line_ends_hold zero-le h)

-- the cosine series is above 0 below 13176793 half steps, and no more at 6588398 to 6588401 steps
pub cos_positive_half : (a : ℕ) → a < 13176793 → cos_down a (2 ^ 23) < cos_up a (2 ^ 23)
cos_positive_half a h =
    lt_of_lt_of_le (strict (cos_down a (2 ^ 23)) (cos_down (a + 1) (2 ^ 23)) least_half (cos_down_mono a (a + 1) (2 ^ 23) (le-add_right a 1)) (lit< tt)) (half_slope a h)
  where
    strict : (x y g : ℕ) → x ≤ y → 0 < g → x < y + g
    strict x y g h k = omega arith

past_top : T (every (λ (a : ℕ). leb (cos_up (2 * a) (2 ^ 23)) (cos_down (2 * a) (2 ^ 23))) 6588398 4)
unfolding every cos_up cos_down sum_of
past_top = tt

pub cos_past : (a : ℕ) → 6588397 < a → a ≤ 6588401 → cos_up (2 * a) (2 ^ 23) ≤ cos_down (2 * a) (2 ^ 23)
cos_past a h k = every_le (λ (x : ℕ). cos_up (2 * x) (2 ^ 23)) (λ (x : ℕ). cos_down (2 * x) (2 ^ 23)) 6588398 4 a past_top (from a h) (to a k)
  where
    from : (a : ℕ) → 6588397 < a → 6588398 ≤ a
    from a h = omega arith

    to : (a : ℕ) → a ≤ 6588401 → a < 6588398 + 4
    to a k = omega arith

-- ---- the cosine falls

-- the slope downward is at least g and l, over the cosine's denominator, from u to the last of the ends: g sinks and l rises
abbrev pub FallEnds : (ℕ → ℕ) → (ℕ → ℕ) → ℕ → List ℕ → Type 0
FallEnds g l u us = T (apart (fall_of (2 ^ 23)) g (λ (a : ℕ). rise_of (2 ^ 23) a + l a) u us)

pub fall_above : (g l : ℕ → ℕ) → Sinking g → Rising l → (u : ℕ) (us : List ℕ) (a : ℕ) → FallEnds g l u us → u ≤ a → a < last u us → rise_of (2 ^ 23) (a + 1) + (l (a + 1) + g a) ≤ fall_of (2 ^ 23) a
fall_above g l G L u us a t h k =
    le_trans (le_of_eq (regroup (rise_of (2 ^ 23) (a + 1)) (l (a + 1)) (g a)))
    (apart_at (fall_of (2 ^ 23)) g (λ (x : ℕ). rise_of (2 ^ 23) x + l x) (fall_of_mono (2 ^ 23)) G (λ (x : ℕ) (y : ℕ) (m : x ≤ y). add-le-add (rise_of_mono (2 ^ 23) x y m) (L x y m)) u us a t h k)
  where
    regroup : (r l g : ℕ) → r + (l + g) ≡ r + l + g
    regroup r l g = omega arith

nothing : Rising (λ (a : ℕ). 0)
nothing a c h = le_refl 0

-- by 2 ^ -50, from 1 to below 26353588: by intervals, and the last five directly. 24! * (2 ^ 23) ^ 24 / 2 ^ 50
abbrev pub least_drop : ℕ
least_drop = d24 * 2 ^ 502

abbrev drop_ends : List ℕ
drop_ends = 73423 ∷ 3141358 ∷ 10974943 ∷ 16702605 ∷ 19745189 ∷ 21525174 ∷ 22683086 ∷ 23491089 ∷ 24081815 ∷ 24527870 ∷ 24872620 ∷ 25143726 ∷ 25359749 ∷ 25533651 ∷ 25674778 ∷ 25790045 ∷ 25884679 ∷ 25962700 ∷ 26027244 ∷ 26080790 ∷ 26125314 ∷ 26162407 ∷ 26193359 ∷ 26219220 ∷ 26240851 ∷ 26258960 ∷ 26274133 ∷ 26286854 ∷ 26297524 ∷ 26306479 ∷ 26313997 ∷ 26320310 ∷ 26325613 ∷ 26330069 ∷ 26333813 ∷ 26336960 ∷ 26339605 ∷ 26341829 ∷ 26343699 ∷ 26345271 ∷ 26346593 ∷ 26347705 ∷ 26348640 ∷ 26349426 ∷ 26350087 ∷ 26350643 ∷ 26351111 ∷ 26351504 ∷ 26351835 ∷ 26352113 ∷ 26352347 ∷ 26352544 ∷ 26352710 ∷ 26352849 ∷ 26352966 ∷ 26353064 ∷ 26353147 ∷ 26353217 ∷ 26353276 ∷ 26353325 ∷ 26353366 ∷ 26353401 ∷ 26353430 ∷ 26353455 ∷ 26353476 ∷ 26353493 ∷ 26353508 ∷ 26353520 ∷ 26353530 ∷ 26353539 ∷ 26353546 ∷ 26353552 ∷ 26353557 ∷ 26353562 ∷ 26353566 ∷ 26353569 ∷ 26353572 ∷ 26353574 ∷ 26353576 ∷ 26353578 ∷ 26353579 ∷ 26353580 ∷ 26353581 ∷ 26353582 ∷ 26353583 ∷ []

drop_ends_hold : FallEnds (λ (a : ℕ). least_drop) (λ (a : ℕ). 0) 1 drop_ends
unfolding apart fall_of rise_of sum_of
drop_ends_hold = tt

drop_slope : (a : ℕ) → 1 ≤ a → a < 26353583 → rise_of (2 ^ 23) (a + 1) + least_drop ≤ fall_of (2 ^ 23) a
unfolding last
drop_slope a h k = fall_above (λ (x : ℕ). least_drop) (λ (x : ℕ). 0) (constant least_drop) nothing 1 drop_ends a drop_ends_hold h k

last_five : T (every (λ (a : ℕ). leb (cos_up (a + 1) (2 ^ 23) + cos_down a (2 ^ 23) + least_drop) (cos_up a (2 ^ 23) + cos_down (a + 1) (2 ^ 23))) 26353583 5)
unfolding every cos_up cos_down sum_of
last_five = tt

pub half_drops : (a : ℕ) → 1 ≤ a → a < 26353588 → cos_up (a + 1) (2 ^ 23) + cos_down a (2 ^ 23) + least_drop ≤ cos_up a (2 ^ 23) + cos_down (a + 1) (2 ^ 23)
half_drops a h k = go (dec_le 26353583 a)
  where
    go : Dec (26353583 ≤ a) → cos_up (a + 1) (2 ^ 23) + cos_down a (2 ^ 23) + least_drop ≤ cos_up a (2 ^ 23) + cos_down (a + 1) (2 ^ 23)
    go (yes d) = every_le (λ (x : ℕ). cos_up (x + 1) (2 ^ 23) + cos_down x (2 ^ 23) + least_drop) (λ (x : ℕ). cos_up x (2 ^ 23) + cos_down (x + 1) (2 ^ 23)) 26353583 5 a last_five d k
    go (no f) = cos_falls a (2 ^ 23) least_drop (drop_slope a h (lt_of_not-le f))

-- by a line, for a check that evaluates once: up to 13178000 half steps the slope is at least 5/8 of the angle. 24! * (2 ^ 23) ^ 24 * 5 / 8 / 2 ^ 46
abbrev pub fall_unit : ℕ
fall_unit = d24 * 5 * 2 ^ 503

abbrev near_ends : List ℕ
near_ends = 2 ∷ 4 ∷ 7 ∷ 12 ∷ 20 ∷ 32 ∷ 52 ∷ 84 ∷ 135 ∷ 216 ∷ 346 ∷ 554 ∷ 887 ∷ 1420 ∷ 2272 ∷ 3636 ∷ 5818 ∷ 9309 ∷ 14895 ∷ 23832 ∷ 38131 ∷ 61009 ∷ 97611 ∷ 156164 ∷ 249804 ∷ 399445 ∷ 638128 ∷ 1017019 ∷ 1611378 ∷ 2517752 ∷ 3817790 ∷ 5485125 ∷ 7308933 ∷ 8991431 ∷ 10341663 ∷ 11330794 ∷ 12019444 ∷ 12486621 ∷ 12799534 ∷ 13007806 ∷ 13145990 ∷ 13178000 ∷ []

near_ends_hold : FallEnds (λ (a : ℕ). 0) (λ (a : ℕ). fall_unit * (a - 1)) 1 near_ends
unfolding apart fall_of rise_of sum_of
near_ends_hold = tt

what_is_past : (u : ℕ) → Rising (λ (a : ℕ). u * (a - 1))
what_is_past u a c h = mul-le-mul_left u (more a c h)
  where
    more : (a c : ℕ) → a ≤ c → a - 1 ≤ c - 1
    more a c h = omega arith

pub line_drops : (a : ℕ) → 1 ≤ a → a < 13178000 → cos_up (a + 1) (2 ^ 23) + cos_down a (2 ^ 23) + fall_unit * a ≤ cos_up a (2 ^ 23) + cos_down (a + 1) (2 ^ 23)
unfolding last
line_drops a h k =
    cos_falls a (2 ^ 23) (fall_unit * a)
    (subst (λ (g : ℕ). rise_of (2 ^ 23) (a + 1) + g ≤ fall_of (2 ^ 23) a) (add-zero (fall_unit * (a + 1 - 1)) ∙ ap (λ (z : ℕ). fall_unit * z) (back a))
    (fall_above (λ (x : ℕ). 0) (λ (x : ℕ). fall_unit * (x - 1)) (constant 0) (what_is_past fall_unit) 1 near_ends a near_ends_hold h k))
  where
    back : (a : ℕ) → a + 1 - 1 ≡ a
    back a = omega arith

-- and from 13176500 on, up to 26350888, of what is left to 26353588
abbrev far_ends : List ℕ
far_ends = 13297252 ∷ 13472820 ∷ 13721453 ∷ 14061364 ∷ 14505770 ∷ 15056883 ∷ 15701902 ∷ 16414145 ∷ 17159484 ∷ 17904650 ∷ 18623317 ∷ 19298302 ∷ 19920731 ∷ 20487882 ∷ 21000949 ∷ 21463297 ∷ 21879276 ∷ 22253507 ∷ 22590480 ∷ 22894358 ∷ 23168899 ∷ 23417438 ∷ 23642912 ∷ 23847893 ∷ 24034626 ∷ 24205074 ∷ 24360952 ∷ 24503761 ∷ 24634819 ∷ 24755284 ∷ 24866177 ∷ 24968400 ∷ 25062755 ∷ 25149953 ∷ 25230628 ∷ 25305347 ∷ 25374618 ∷ 25438898 ∷ 25498597 ∷ 25554086 ∷ 25605701 ∷ 25653745 ∷ 25698495 ∷ 25740202 ∷ 25779095 ∷ 25815383 ∷ 25849257 ∷ 25880893 ∷ 25910451 ∷ 25938079 ∷ 25963913 ∷ 25988078 ∷ 26010689 ∷ 26031852 ∷ 26051667 ∷ 26070224 ∷ 26087607 ∷ 26103895 ∷ 26119160 ∷ 26133469 ∷ 26146885 ∷ 26159466 ∷ 26171266 ∷ 26182335 ∷ 26192720 ∷ 26202465 ∷ 26211610 ∷ 26220193 ∷ 26228250 ∷ 26235814 ∷ 26242916 ∷ 26249585 ∷ 26255848 ∷ 26261730 ∷ 26267254 ∷ 26272443 ∷ 26277317 ∷ 26281896 ∷ 26286198 ∷ 26290240 ∷ 26294038 ∷ 26297607 ∷ 26300961 ∷ 26304113 ∷ 26307075 ∷ 26309859 ∷ 26312475 ∷ 26314934 ∷ 26317245 ∷ 26319418 ∷ 26321460 ∷ 26323380 ∷ 26325185 ∷ 26326882 ∷ 26328477 ∷ 26329976 ∷ 26331386 ∷ 26332711 ∷ 26333957 ∷ 26335128 ∷ 26336229 ∷ 26337265 ∷ 26338239 ∷ 26339154 ∷ 26340015 ∷ 26340824 ∷ 26341585 ∷ 26342301 ∷ 26342974 ∷ 26343607 ∷ 26344202 ∷ 26344761 ∷ 26345287 ∷ 26345782 ∷ 26346247 ∷ 26346684 ∷ 26347095 ∷ 26347482 ∷ 26347846 ∷ 26348188 ∷ 26348510 ∷ 26348812 ∷ 26349096 ∷ 26349363 ∷ 26349614 ∷ 26349850 ∷ 26350072 ∷ 26350281 ∷ 26350478 ∷ 26350663 ∷ 26350837 ∷ 26350888 ∷ []

far_ends_hold : FallEnds (λ (a : ℕ). fall_unit * (26353588 - a)) (λ (a : ℕ). 0) 13176500 far_ends
unfolding apart fall_of rise_of sum_of
far_ends_hold = tt

pub line_drops_far : (a : ℕ) → 13176500 ≤ a → a < 26350888 → cos_up (a + 1) (2 ^ 23) + cos_down a (2 ^ 23) + fall_unit * (26353588 - a) ≤ cos_up a (2 ^ 23) + cos_down (a + 1) (2 ^ 23)
unfolding last
line_drops_far a h k =
    cos_falls a (2 ^ 23) (fall_unit * (26353588 - a))
    (subst (λ (g : ℕ). rise_of (2 ^ 23) (a + 1) + g ≤ fall_of (2 ^ 23) a) (zero-add (fall_unit * (26353588 - a)))
    (fall_above (λ (x : ℕ). fall_unit * (26353588 - x)) (λ (x : ℕ). 0) (what_is_left fall_unit 26353588) nothing 13176500 far_ends a far_ends_hold h k))

-- the sine series is above 0 from 1 to 13176794 steps, and no more at 13176795 to 13176798
last_four : T (every (λ (a : ℕ). leb (sin_down (2 * a) (2 ^ 23) + 1) (sin_up (2 * a) (2 ^ 23))) 13176791 4)
unfolding every sin_up sin_down sum_of
last_four = tt

pub sin_positive : (a : ℕ) → 1 ≤ a → a ≤ 13176794 → sin_down (2 * a) (2 ^ 23) < sin_up (2 * a) (2 ^ 23)
sin_positive a h k = go (dec_le 13176791 a)
  where
    some : (a : ℕ) → 1 ≤ a → 1 ≤ 2 * a
    some a h = omega arith

    few : (a : ℕ) → a < 13176791 → 2 * a < 26353583
    few a h = omega arith

    to : (a : ℕ) → a ≤ 13176794 → a < 13176791 + 4
    to a h = omega arith

    less : (x y : ℕ) → x + 1 ≤ y → x < y
    less x y h = omega arith

    strict : (x y g f : ℕ) → x ≤ y → 0 < g → y + g ≤ f → x < f
    strict x y g f h k l = omega arith

    go : Dec (13176791 ≤ a) → sin_down (2 * a) (2 ^ 23) < sin_up (2 * a) (2 ^ 23)
    go (yes d) = less (sin_down (2 * a) (2 ^ 23)) (sin_up (2 * a) (2 ^ 23)) (every_le (λ (x : ℕ). sin_down (2 * x) (2 ^ 23) + 1) (λ (x : ℕ). sin_up (2 * x) (2 ^ 23)) 13176791 4 a last_four d (to a k))
    go (no f) =
        sin_above_0 (2 * a) (2 ^ 23) (lit< tt)
        (strict (rise_of (2 ^ 23) (2 * a)) (rise_of (2 ^ 23) (2 * a + 1)) least_drop (fall_of (2 ^ 23) (2 * a)) (rise_of_mono (2 ^ 23) (2 * a) (2 * a + 1) (le-add_right (2 * a) 1)) (lit< tt) (drop_slope (2 * a) (some a h) (few a (lt_of_not-le f))))

past_bottom : T (every (λ (a : ℕ). leb (sin_up (2 * a) (2 ^ 23)) (sin_down (2 * a) (2 ^ 23))) 13176795 4)
unfolding every sin_up sin_down sum_of
past_bottom = tt

pub sin_past : (a : ℕ) → 13176794 < a → a ≤ 13176798 → sin_up (2 * a) (2 ^ 23) ≤ sin_down (2 * a) (2 ^ 23)
sin_past a h k = every_le (λ (x : ℕ). sin_up (2 * x) (2 ^ 23)) (λ (x : ℕ). sin_down (2 * x) (2 ^ 23)) 13176795 4 a past_bottom (from a h) (to a k)
  where
    from : (a : ℕ) → 13176794 < a → 13176795 ≤ a
    from a h = omega arith

    to : (a : ℕ) → a ≤ 13176798 → a < 13176795 + 4
    to a k = omega arith
