-- The sine series cut short, to four terms of each sign: at an angle up to a quarter turn it is below the whole one by at most `short_by`. Assumes nothing.
use Rattle.std.proofs.Common.{◌≡◌, ℕ, ◌+◌, ◌*◌, ◌/◌, ◌^◌, ◌≤◌, List, [], ◌∷◌, take, drop, zero-le, le_trans, le_refl, le-add_right, add-le-add, mul-add, arith, lit≤}
use Rattle.angles.specs.Series.{mh, fixed, cube, power, d25, sin_plus_terms, sin_minus_terms, sin_plus, sin_minus}
use Rattle.angles.proofs.SinCosBounded.{mh_mono, fixed_mono, power_mono, cube_mono}
use Rattle.angles.specs.Requires.{short_by, Close, over}
use Rattle.angles.specs.Grid.{half}
use Rattle.angles.specs.Arcsine.{asin_top}

pub exact : {x y : ℕ} → x ≡ y → Close x y 0
exact e = (omega arith, omega arith)

-- ---- what is left out, carried through a product by at most m, and through the terms cs
product_close : {v m x y : ℕ} (k : ℕ) → v ≤ m → Close x y k → Close (mh v x) (mh v y) (mh m k + 1)
product_close {v} {m} {x} {y} k h c = (
  mh_mono v x v y (le_refl v) c.0,
  le_trans (mh_mono v y v (x + k) (le_refl v) c.1) (rw (mul-add v x k) (le_trans (sum_le (v * x) (v * k)) (add-le-add (le_refl (mh v x)) (add-le-add (mh_mono v k m k h (le_refl k)) (le_refl 1))))),
)
  where
    sum_le : (a b : ℕ) → (a + b) / 2 ^ 64 ≤ a / 2 ^ 64 + (b / 2 ^ 64 + 1)
    sum_le a b = omega arith

abbrev carried : (m k : ℕ) → List ℕ → ℕ
carried m k [] = k
carried m k (c ∷ cs) = mh m (carried m k cs) + 1

over_close : (d f : ℕ) (cs : List ℕ) {v m h h' : ℕ} (k : ℕ) → v ≤ m → Close h h' k → Close (over d f cs v h) (over d f cs v h') (carried m k cs)
unfolding over
over_close d f [] k l c = c
over_close d f (c₀ ∷ cs) {v} {m} {h} {h'} k l c = added (f * c₀ / d) (mh v (over d (512 * f) cs v h)) (mh v (over d (512 * f) cs v h')) (carried m k (c₀ ∷ cs)) (product_close (carried m k cs) l (over_close d (512 * f) cs k l c))
  where
    added : (a x y k : ℕ) → Close x y k → Close (a + x) (a + y) k
    added a x y k c = (omega arith, omega arith)

-- the first term for all: the others are at most what they are at m
first_close : (d f : ℕ) (cs : List ℕ) {v m : ℕ} → v ≤ m → Close (fixed d f (take 1 cs) v) (fixed d f cs v) (mh m (fixed d (512 * f) (drop 1 cs) m))
unfolding fixed
first_close d f [] h = (le_refl 0, zero-le)
first_close d f (c ∷ []) {v} {m} h = (le_refl (f * c / d), le-add_right (f * c / d) (mh m 0))
first_close d f (c ∷ (c' ∷ cs)) {v} {m} h =
    let g = fixed d (512 * f) (c' ∷ cs) in
    (le-add_right (f * c / d) (mh v (g v)), add-le-add (le_refl (f * c / d)) (mh_mono v (g v) m (g m) h (fixed_mono d (512 * f) (c' ∷ cs) v m h)))

-- ---- four terms for all: three, over the first of those after them
abbrev later : ℕ → ℕ
later f = 512 * (512 * (512 * f))

four_close : (d f : ℕ) (cs : List ℕ) {w u v m k : ℕ} → w ≤ u → v ≤ m → mh u (carried m (mh m (fixed d (512 * later f) (drop 1 (drop 3 cs)) m)) (take 3 cs)) + 1 ≤ k → Close (mh w (over d f (take 3 cs) v (fixed d (later f) (take 1 (drop 3 cs)) v))) (mh w (over d f (take 3 cs) v (fixed d (later f) (drop 3 cs) v))) k
four_close d f cs {w} {u} {v} {m} p q r =
    let e = mh m (fixed d (512 * later f) (drop 1 (drop 3 cs)) m) in
    let c = product_close (carried m e (take 3 cs)) p (over_close d f (take 3 cs) e q (first_close d (later f) (drop 3 cs) q)) in
    (c.0, le_trans c.1 (add-le-add (le_refl (mh w (over d f (take 3 cs) v (fixed d (later f) (take 1 (drop 3 cs)) v)))) r))

-- the sine's terms that are added, and those that are taken away
abbrev pub short_plus : ℕ → ℕ
short_plus n = mh n (over d25 (2 ^ 60) (take 3 sin_plus_terms) (power n) 24850166697800741)

abbrev pub short_minus : ℕ → ℕ
short_minus n = mh (cube n) (over d25 (2 ^ 64) (take 3 sin_minus_terms) (power n) 1893346034118151)

module _ (n : ℕ) (h : n ≤ half asin_top) where
  pub short_plus_lem : Close (short_plus n) (sin_plus n) short_by
  unfolding sin_plus fixed over
  short_plus_lem = four_close d25 (2 ^ 60) sin_plus_terms h (power_mono n (half asin_top) h) (lit≤ tt)

  pub short_minus_lem : Close (short_minus n) (sin_minus n) short_by
  unfolding sin_minus fixed over
  short_minus_lem = four_close d25 (2 ^ 64) sin_minus_terms (cube_mono n (half asin_top) h) (power_mono n (half asin_top) h) (lit≤ tt)
