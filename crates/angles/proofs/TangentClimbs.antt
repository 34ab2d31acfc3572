-- The sine series less the argument times the cosine series, cross-multiplied, climbs along the grid up to a quarter turn: nowhere does it sink, and below 1.2, or for an argument from 1/4 on, it
-- climbs by at least 64 units of 2 ^ -33 a half step. Above 1.2 it is past every argument up to 1/4. Assumes nothing.
use Rattle.std.proofs.Common.{◌≡◌, ℕ, ◌+◌, ◌-◌, ◌*◌, ◌^◌, ◌<◌, ◌≤◌, sym, subst, le_trans, le_of_eq, add_assoc, add-le-add, mul-le-mul_right, mul_assoc, mul_comm, add-mul, mul-le-mul_left, one-mul, mul-add, mul_left_comm, arith, lit≤}
use Rattle.angles.specs.Series.{sum_of, sin_up, sin_down, sin_den, cos_up, cos_down, cos_den}
use Rattle.angles.proofs.ArcsineLaws.{rises, not_below_0}
use Rattle.angles.proofs.ArccosineLaws.{falls}
use Rattle.angles.proofs.TangentSteps.{bend, quarter, three_quarters, sine_climbs, cosine_plunges}

-- the unit of the cross-multiplied series
abbrev pub unit : ℕ → ℕ
unit y = sin_den (2 ^ 23) * (cos_den (2 ^ 23) * y)

-- sine * y against cosine * x at a half steps, in those units and without differences: the tangent is at most x / y where left is at most right
unfoldable pub left : ℕ → ℕ → ℕ → ℕ
left a x y = sin_up a (2 ^ 23) * (cos_den (2 ^ 23) * y) + cos_down a (2 ^ 23) * (sin_den (2 ^ 23) * x)

unfoldable pub right : ℕ → ℕ → ℕ → ℕ
right a x y = sin_down a (2 ^ 23) * (cos_den (2 ^ 23) * y) + cos_up a (2 ^ 23) * (sin_den (2 ^ 23) * x)

-- ---- the sine less the argument times the cosine climbs from a to c half steps, by at least q units

pub record Climbs (q a c x y : ℕ) : Type 0 where
  pub by : ℕ
  pub enough : q * unit y ≤ 2 ^ 33 * by
  pub climb : left a x y + right c x y + by ≤ left c x y + right a x y

pub further : (q p a c d x y : ℕ) → Climbs q a c x y → Climbs p c d x y → Climbs (q + p) a d x y
further q p a c d x y f g =
    record {
      by = f.by + g.by;
      enough = le_trans (le_of_eq (add-mul q p (unit y))) (le_trans (add-le-add f.enough g.enough) (le_of_eq (sym (mul-add (2 ^ 33) f.by g.by))));
      climb = both (left a x y) (right a x y) (left c x y) (right c x y) (left d x y) (right d x y) f.by g.by f.climb g.climb;
    }
  where
    both : (l r l1 r1 l2 r2 u v : ℕ) → l + r1 + u ≤ l1 + r → l1 + r2 + v ≤ l2 + r1 → l + r2 + (u + v) ≤ l2 + r
    both l r l1 r1 l2 r2 u v h k = omega arith

-- on plain numbers: the sine rises by r and the cosine falls by f
climb_arith : (su sd su' sd' cu cd cu' cd' m n r f : ℕ) → su + sd' + r ≤ su' + sd → cu' + cd + f ≤ cu + cd' → su * m + cd * n + (sd' * m + cu' * n) + (r * m + f * n) ≤ su' * m + cd' * n + (sd * m + cu * n)
climb_arith su sd su' sd' cu cd cu' cd' m n r f h k =
    let h' : su * m + sd' * m + r * m ≤ su' * m + sd * m = le_trans (le_of_eq e1) (le_trans (mul-le-mul_right m h) (le_of_eq (add-mul su' sd m))) in
    let k' : cu' * n + cd * n + f * n ≤ cu * n + cd' * n = le_trans (le_of_eq e2) (le_trans (mul-le-mul_right n k) (le_of_eq (add-mul cu cd' n))) in
    both (su * m) (sd' * m) (r * m) (su' * m) (sd * m) (cu' * n) (cd * n) (f * n) (cu * n) (cd' * n) h' k'
  where
    e1 : su * m + sd' * m + r * m ≡ (su + sd' + r) * m
    e1 = simp add-mul

    e2 : cu' * n + cd * n + f * n ≡ (cu' + cd + f) * n
    e2 = simp add-mul

    both : (a b r c d e f g h i : ℕ) → a + b + r ≤ c + d → e + f + g ≤ h + i → a + f + (b + e) + (r + g) ≤ c + i + (d + h)
    both a b r c d e f g h i p q = omega arith

-- what one unit is worth, by the sine's rise r or the cosine's fall f
pub climbs : (q a c x y r f : ℕ) → q * unit y ≤ 2 ^ 33 * (r * (cos_den (2 ^ 23) * y) + f * (sin_den (2 ^ 23) * x))
    → sin_up a (2 ^ 23) + sin_down c (2 ^ 23) + r ≤ sin_up c (2 ^ 23) + sin_down a (2 ^ 23) → cos_up c (2 ^ 23) + cos_down a (2 ^ 23) + f ≤ cos_up a (2 ^ 23) + cos_down c (2 ^ 23) → Climbs q a c x y
unfolding left right
climbs q a c x y r f e h k =
    record {
      by = r * (cos_den (2 ^ 23) * y) + f * (sin_den (2 ^ 23) * x);
      enough = e;
      climb = climb_arith (sin_up a (2 ^ 23)) (sin_down a (2 ^ 23)) (sin_up c (2 ^ 23)) (sin_down c (2 ^ 23)) (cos_up a (2 ^ 23)) (cos_down a (2 ^ 23)) (cos_up c (2 ^ 23)) (cos_down c (2 ^ 23)) (cos_den (2 ^ 23) * y) (sin_den (2 ^ 23) * x) r f h k;
    }

drop_0 : (a b c : ℕ) → a + b ≤ c → a + b + 0 ≤ c
drop_0 a b c h = omega arith

-- up to a quarter turn it never sinks
pub level : (a d x y : ℕ) → a + d ≤ 13176794 → Climbs 0 a (a + d) x y
level a d x y h =
    climbs 0 a (a + d) x y 0 0 (nothing (unit y) (2 ^ 33 * (0 * (cos_den (2 ^ 23) * y) + 0 * (sin_den (2 ^ 23) * x))))
    (drop_0 (sin_up a (2 ^ 23)) (sin_down (a + d) (2 ^ 23)) (sin_up (a + d) (2 ^ 23) + sin_down a (2 ^ 23)) (rises d a h))
    (drop_0 (cos_up (a + d) (2 ^ 23)) (cos_down a (2 ^ 23)) (cos_up a (2 ^ 23) + cos_down (a + d) (2 ^ 23)) (falls d a (less a d h)))
  where
    less : (a d : ℕ) → a + d ≤ 13176794 → a + d ≤ 26353588
    less a d h = omega arith

    nothing : (u v : ℕ) → 0 * u ≤ v
    nothing u v = omega arith

sine_worth : 64 * sin_den (2 ^ 23) ≤ 2 ^ 33 * (25 * quarter)
unfolding sin_den
sine_worth = lit≤ tt

cosine_worth : 256 * cos_den (2 ^ 23) ≤ 2 ^ 33 * three_quarters
cosine_worth = lit≤ tt

-- below 1.2 by the sine alone
pub climbs_low : (a x y : ℕ) → a < bend → Climbs 64 a (a + 1) x y
climbs_low a x y h =
    climbs 64 a (a + 1) x y (25 * quarter) 0 (worth (sin_den (2 ^ 23)) (cos_den (2 ^ 23) * y) (25 * quarter) (2 ^ 33) (0 * (sin_den (2 ^ 23) * x)) sine_worth)
    (sine_climbs a h)
    (drop_0 (cos_up (a + 1) (2 ^ 23)) (cos_down a (2 ^ 23)) (cos_up a (2 ^ 23) + cos_down (a + 1) (2 ^ 23)) (falls 1 a (within a h)))
  where
    within : (a : ℕ) → a < bend → a + 1 ≤ 26353588
    within a h = omega arith

    worth : (e m r s z : ℕ) → 64 * e ≤ s * r → 64 * (e * m) ≤ s * (r * m + z)
    worth e m r s z h =
        le_trans (le_of_eq (sym (mul_assoc 64 e m))) (le_trans (mul-le-mul_right m h) (le_trans (le_of_eq (mul_assoc s r m)) (mul-le-mul_left s (more (r * m) z))))
      where
        more : (a b : ℕ) → a ≤ a + b
        more a b = omega arith

-- above it by the cosine, for an argument from 1/4 on
pub climbs_high : (a x y : ℕ) → bend ≤ a → a < 13176794 → y ≤ 4 * x → Climbs 64 a (a + 1) x y
climbs_high a x y h k l =
    climbs 64 a (a + 1) x y 0 three_quarters (worth (sin_den (2 ^ 23)) (cos_den (2 ^ 23)) three_quarters (2 ^ 33) (0 * (cos_den (2 ^ 23) * y)) cosine_worth)
    (drop_0 (sin_up a (2 ^ 23)) (sin_down (a + 1) (2 ^ 23)) (sin_up (a + 1) (2 ^ 23) + sin_down a (2 ^ 23)) (rises 1 a (within a k)))
    (cosine_plunges a h k)
  where
    within : (a : ℕ) → a < 13176794 → a + 1 ≤ 13176794
    within a h = omega arith

    worth : (e d f s z : ℕ) → 256 * d ≤ s * f → 64 * (e * (d * y)) ≤ s * (z + f * (e * x))
    worth e d f s z h =
        let p : 64 * (e * (d * y)) ≤ 64 * (e * (d * (4 * x))) = mul-le-mul_left 64 (mul-le-mul_left e (mul-le-mul_left d l)) in
        let q : 64 * (e * (d * (4 * x))) ≡ 256 * d * (e * x) = collect e d x in
        let r : s * f * (e * x) ≡ s * (f * (e * x)) = mul_assoc s f (e * x) in
        le_trans p (le_trans (le_of_eq q) (le_trans (mul-le-mul_right (e * x) h) (le_trans (le_of_eq r) (mul-le-mul_left s (more (f * (e * x)) z)))))
      where
        more : (a b : ℕ) → a ≤ b + a
        more a b = omega arith

        collect : (e d x : ℕ) → 64 * (e * (d * (4 * x))) ≡ 256 * d * (e * x)
        collect e d x = moved 64 4 e d x
          where
            moved : (m n e d x : ℕ) → m * (e * (d * (n * x))) ≡ m * n * d * (e * x)
            moved m n e d x = simp (mul_assoc, mul_comm, mul_left_comm)

-- ---- above 1.2 the tangent is past every argument up to 1/4

at_bend : right bend 1 4 ≤ left bend 1 4
unfolding left right sin_up sin_down cos_up cos_down sum_of sin_den
at_bend = lit≤ tt

-- on plain numbers: an inequality times c, with z more on the side that is greater
grown : (a b a' b' d e m n c z : ℕ) → a * (d * m) + b * (e * n) ≤ a' * (d * m) + b' * (e * n) → b ≤ b' → a * (d * (m * c)) + b * (e * (n * c + z)) ≤ a' * (d * (m * c)) + b' * (e * (n * c + z))
grown a b a' b' d e m n c z h k =
    le_trans (le_of_eq (apart a b)) (le_trans (add-le-add (mul-le-mul_right c h) (mul-le-mul_right (e * z) k)) (le_of_eq (sym (apart a' b'))))
  where
    apart : (p q : ℕ) → p * (d * (m * c)) + q * (e * (n * c + z)) ≡ (p * (d * m) + q * (e * n)) * c + q * (e * z)
    apart p q = simp (mul-add, add-mul, mul_assoc, add_assoc)

-- where the series is on one side of the argument, it is there before, or after
pub left_before : (q a c x y : ℕ) → Climbs q a c x y → left c x y ≤ right c x y → left a x y ≤ right a x y
left_before q a c x y f h = cancel (left a x y) (right a x y) (left c x y) (right c x y) f.by f.climb h
  where
    cancel : (l r l' r' b : ℕ) → l + r' + b ≤ l' + r → l' ≤ r' → l ≤ r
    cancel l r l' r' b h k = omega arith

pub right_after : (q a c x y : ℕ) → Climbs q a c x y → right a x y ≤ left a x y → right c x y ≤ left c x y
right_after q a c x y f h = cancel (left a x y) (right a x y) (left c x y) (right c x y) f.by f.climb h
  where
    cancel : (l r l' r' b : ℕ) → l + r' + b ≤ l' + r → r ≤ l → r' ≤ l'
    cancel l r l' r' b h k = omega arith

up_to : (a c : ℕ) → a ≤ c → a + (c - a) ≡ c
up_to a c h = omega arith

pub past_bend : (a x y : ℕ) → bend ≤ a → a ≤ 13176794 → 4 * x ≤ y → right a x y ≤ left a x y
unfolding left right
past_bend a x y h k l =
    let e : a ≡ bend + (a - bend) = sym (up_to bend a h) in
    let c : right a 1 4 ≤ left a 1 4 = right_after 0 bend a 1 4 (subst (λ (z : ℕ). Climbs 0 bend z 1 4) (up_to bend a h) (level bend (a - bend) 1 4 (le_trans (le_of_eq (up_to bend a h)) k))) at_bend in
    let s = sin_den (2 ^ 23) in
    let d = cos_den (2 ^ 23) in
    subst (λ (w : ℕ). sin_down a (2 ^ 23) * (d * w) + cos_up a (2 ^ 23) * (s * x) ≤ sin_up a (2 ^ 23) * (d * w) + cos_down a (2 ^ 23) * (s * x)) (up_to (4 * x) y l)
    (turn (sin_down a (2 ^ 23) * (d * (4 * x + (y - 4 * x)))) (cos_up a (2 ^ 23) * (s * x)) (sin_up a (2 ^ 23) * (d * (4 * x + (y - 4 * x)))) (cos_down a (2 ^ 23) * (s * x))
    (subst (λ (w : ℕ). cos_up a (2 ^ 23) * (s * w) + sin_down a (2 ^ 23) * (d * (4 * x + (y - 4 * x))) ≤ cos_down a (2 ^ 23) * (s * w) + sin_up a (2 ^ 23) * (d * (4 * x + (y - 4 * x)))) (one-mul x)
    (grown (cos_up a (2 ^ 23)) (sin_down a (2 ^ 23)) (cos_down a (2 ^ 23)) (sin_up a (2 ^ 23)) s d 1 4 x (y - 4 * x) (turn (cos_up a (2 ^ 23) * (s * 1)) (sin_down a (2 ^ 23) * (d * 4)) (cos_down a (2 ^ 23) * (s * 1)) (sin_up a (2 ^ 23) * (d * 4)) c) (not_below_0 a k))))
  where
    turn : (p q r s : ℕ) → q + p ≤ s + r → p + q ≤ r + s
    turn p q r s h = omega arith

-- a greater argument is on the same side of a tangent that is below it, where the cosine is not below 0
pub greater : (a m x y : ℕ) → cos_down a (2 ^ 23) ≤ cos_up a (2 ^ 23) → m * y ≤ x → left a m 1 ≤ right a m 1 → left a x y ≤ right a x y
unfolding left right
greater a m x y c l h =
    let s = sin_den (2 ^ 23) in
    let d = cos_den (2 ^ 23) in
    subst (λ (w : ℕ). sin_up a (2 ^ 23) * (d * y) + cos_down a (2 ^ 23) * (s * w) ≤ sin_down a (2 ^ 23) * (d * y) + cos_up a (2 ^ 23) * (s * w)) (up_to (m * y) x l)
    (subst (λ (w : ℕ). sin_up a (2 ^ 23) * (d * w) + cos_down a (2 ^ 23) * (s * (m * y + (x - m * y))) ≤ sin_down a (2 ^ 23) * (d * w) + cos_up a (2 ^ 23) * (s * (m * y + (x - m * y)))) (one-mul y)
    (grown (sin_up a (2 ^ 23)) (cos_down a (2 ^ 23)) (sin_down a (2 ^ 23)) (cos_up a (2 ^ 23)) d s 1 m y (x - m * y) h c))
