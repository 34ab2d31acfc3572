-- The order of floats: `<` is transitive (float_trans), asymmetric (float_asym), and excludes `==` (float_ne) and `>=` (float_not_le); a magnitude is not below 0, and minus a magnitude
-- is not above it; what is `<=` or `>=` something is a number (le_number), and `<=` is transitive (le_trans).
-- Assumes nothing.
use mathlib.Core.Path.{◌≡◌, refl, sym, subst, ◌∙◌}
use mathlib.Core.Bool.{Bool, true, false, ◌&&◌, ◌||◌}
use Prim.Native.Nat.{ℕ, zero, suc, ◌+◌, ◌*◌, ◌≤◌, ◌<◌}
use native.Mathlib.Nat.{lt_trans, mul_right_comm, mul-lt-mul_of_pos_right, lt_of_mul-lt-mul_right, mul-pos, zero-mul, zero-lt-suc}
use native.Mathlib.Omega.{arith}
use lib.Dec.{leb, ltb, eqb}
use lib.Ieee.{Float, nan, inf, fin, up, down, below, level, of_bits, neg, lt, le, eq}
use lib.Ieee.Fits.{down_pos}
use lib.Ieee.Positive.{through}
use borrow.Author.Tests.{leb-true, leb-false, ltb-true, ltb-false, lt-ltb, le-ltb, eq-eqb, ne_eqb, eqb-true, eqb-false}
use Rattle.arith.specs.Floats.{f32, abs_of}

pub no : {X : Type 0} → false ≡ true → X
no e = let z : ◌≡◌ {A = ℕ} 0 1 = cc in absurd (omega arith)

-- a / x < b / y < c / z
cross : (a b c x y z : ℕ) → 0 < x → 0 < z → a * y < b * x → b * z < c * y → a * z < c * x
cross a b c x y z X Z p q =
    let p' : a * y * z < b * x * z = mul-lt-mul_of_pos_right p Z in
    let q' : b * z * x < c * y * x = mul-lt-mul_of_pos_right q X in
    let p2 : a * z * y < b * z * x = rw (mul_right_comm a y z, mul_right_comm b x z) at p' in
    let q2 : b * z * x < c * x * y = rw (mul_right_comm c y x) at q' in
    lt_of_mul-lt-mul_right y (lt_trans p2 q2)

some : (c y : ℕ) → 0 < c * y → 0 < c
some c y h = lt_of_mul-lt-mul_right y (subst (λ (k : ℕ). k < c * y) (sym (zero-mul y)) h)

below_trans : (s t u : Bool) (a b c x y z : ℕ) → 0 < x → 0 < y → 0 < z → below s (a * y) t (b * x) ≡ true → below t (b * z) u (c * y) ≡ true → below s (a * z) u (c * x) ≡ true
below_trans false false false a b c x y z X Y Z p q = lt-ltb _ _ (cross a b c x y z X Z (ltb-true _ _ p) (ltb-true _ _ q))
below_trans false false true a b c x y z X Y Z p q = no q
below_trans false true u a b c x y z X Y Z p q = no p
below_trans true false false a b c x y z X Y Z p q =
    let k : b * z < c * y = ltb-true _ _ q in
    let h : 0 < c * x = mul-pos (some c y (omega arith)) X in
    lt-ltb 0 (a * z + c * x) (omega arith)
below_trans true false true a b c x y z X Y Z p q = no q
below_trans true true false a b c x y z X Y Z p q =
    let k : b * x < a * y = ltb-true _ _ p in
    let h : 0 < a * z = mul-pos (some a y (omega arith)) Z in
    lt-ltb 0 (a * z + c * x) (omega arith)
below_trans true true true a b c x y z X Y Z p q = lt-ltb _ _ (cross c b a z y x Z X (ltb-true _ _ q) (ltb-true _ _ p))

top : (y : Float) → lt y nan ≡ true → ⊥
unfolding lt
top nan e = no e
top (inf s) e = no e
top (fin s m d) e = no e

bottom : (y : Float) → lt y (inf true) ≡ true → ⊥
unfolding lt
bottom nan e = no e
bottom (inf true) e = no e
bottom (inf false) e = no e
bottom (fin s m d) e = no e

pub float_trans : (x y z : Float) → lt x y ≡ true → lt y z ≡ true → lt x z ≡ true
unfolding lt
float_trans nan y z p q = no p
float_trans (inf s) y nan p q = absurd (top y q)
float_trans (inf s) y (inf true) p q = absurd (bottom y q)
float_trans (inf true) y (inf false) p q = refl
float_trans (inf true) y (fin u n d) p q = refl
float_trans (inf false) nan (inf false) p q = no p
float_trans (inf false) (inf t) (inf false) p q = no p
float_trans (inf false) (fin t k c) (inf false) p q = no p
float_trans (inf false) nan (fin u n d) p q = no p
float_trans (inf false) (inf t) (fin u n d) p q = no p
float_trans (inf false) (fin t k c) (fin u n d) p q = no p
float_trans (fin s m e) y nan p q = absurd (top y q)
float_trans (fin s m e) y (inf true) p q = absurd (bottom y q)
float_trans (fin s m e) y (inf false) p q = refl
float_trans (fin s m e) nan (fin u n d) p q = no p
float_trans (fin s m e) (inf true) (fin u n d) p q = no p
float_trans (fin s m e) (inf false) (fin u n d) p q = no q
float_trans (fin s m e) (fin t k c) (fin u n d) p q = below_trans s t u (m * up e) (k * up c) (n * up d) (down e) (down c) (down d) (down_pos e) (down_pos c) (down_pos d) p q

pub float_irrefl : (x : Float) → lt x x ≡ false
unfolding lt
float_irrefl nan = refl
float_irrefl (inf true) = refl
float_irrefl (inf false) = refl
float_irrefl (fin false m e) = le-ltb (m * up e * down e) (m * up e * down e) (omega arith)
float_irrefl (fin true m e) = le-ltb (m * up e * down e) (m * up e * down e) (omega arith)

pub flag : (t : Bool) → (t ≡ true → ⊥) → t ≡ false
flag true h = absurd (h refl)
flag false h = refl

pub float_asym : (x y : Float) → lt x y ≡ true → lt y x ≡ false
float_asym x y p = flag (lt y x) (λ q. no (sym (float_irrefl x) ∙ float_trans x y x p q))

parts : (t u : Bool) → (t && u) ≡ true → (t ≡ true) × (u ≡ true)
parts true u e = (refl, e)
parts false u e = no e

level_no : (s t : Bool) (a b : ℕ) → below s a t b ≡ true → level t b s a ≡ false
level_no false false a b p = rw (ne_eqb b a (λ e. let k : a < b = ltb-true _ _ p in omega arith))
level_no false true a b p = no p
level_no true false a b p = flag (level false b true a) (λ e. let w = parts (eqb b a) (eqb b 0) e in let k : 0 < a + b = ltb-true _ _ p in let x : b ≡ a = eqb-true b a w.0 in let y : b ≡ 0 = eqb-true b 0 w.1 in omega arith)
level_no true true a b p = rw (ne_eqb b a (λ e. let k : b < a = ltb-true _ _ p in omega arith))

pub float_ne : (x y : Float) → lt x y ≡ true → eq y x ≡ false
unfolding lt eq
float_ne nan y p = no p
float_ne (inf s) nan p = no p
float_ne (inf true) (inf true) p = no p
float_ne (inf true) (inf false) p = refl
float_ne (inf false) (inf t) p = no p
float_ne (inf s) (fin t n d) p = refl
float_ne (fin s m e) nan p = no p
float_ne (fin s m e) (inf t) p = refl
float_ne (fin s m e) (fin t n d) p = level_no s t (m * up e * down d) (n * up d * down e) p

-- a magnitude is not below 0, and minus a magnitude is not above it
pub abs_not_below : (x : Float) → lt (abs_of x) (f32 0) ≡ false
unfolding abs_of lt of_bits
abs_not_below nan = refl
abs_not_below (inf s) = refl
abs_not_below (fin s m e) = le-ltb (m * up e * 1) (0 * down e) (omega arith)

pub neg_abs_not_above : (x : Float) → lt (f32 0) (neg (abs_of x)) ≡ false
unfolding abs_of neg lt of_bits
neg_abs_not_above nan = refl
neg_abs_not_above (inf s) = refl
neg_abs_not_above (fin s m e) = refl

-- x < y excludes y ≤ x
pub float_not_le : (x y : Float) → lt x y ≡ true → le y x ≡ false
unfolding le
float_not_le x y p = rw (float_asym x y p, float_ne x y p)

-- not NaN: equal to itself
self_level : (s : Bool) (a : ℕ) → level s a s a ≡ true
self_level false a = rw (eq-eqb a a refl)
self_level true a = rw (eq-eqb a a refl)

or_right : (t u : Bool) → u ≡ true → (t || u) ≡ true
or_right true u e = refl
or_right false u e = e

no_le_nan : (x : Float) → le x nan ≡ true → ⊥
unfolding le lt eq
no_le_nan nan e = no e
no_le_nan (inf s) e = no e
no_le_nan (fin s m d) e = no e

pub le_number : (x y : Float) → le x y ≡ true → le y y ≡ true
unfolding le lt eq
le_number x nan e = absurd (no_le_nan x e)
le_number x (inf true) e = refl
le_number x (inf false) e = refl
le_number x (fin s m e) p = let a = m * up e * down e in or_right (below s a s a) (level s a s a) (self_level s a)

-- `<=` of two finite numbers, by their signs and by their sizes over one denominator
abbrev Under : Bool → ℕ → Bool → ℕ → Type 0
Under false a false b = a ≤ b
Under false a true b = (a ≡ 0) × (b ≡ 0)
Under true a false b = Unit {0}
Under true a true b = b ≤ a

under_same : (a b : ℕ) (c : Bool) → leb a b ≡ c → (ltb a b || (eqb a b && true)) ≡ true → a ≤ b
under_same a b true h e = leb-true a b h
under_same a b false h e =
    let k : b < a = leb-false a b h in
    no (sym (rw (le-ltb a b (omega arith), ne_eqb a b (λ q. omega arith))) ∙ e)

same_under : (a b : ℕ) (c : Bool) → ltb a b ≡ c → a ≤ b → (ltb a b || (eqb a b && true)) ≡ true
same_under a b true h k = rw h
same_under a b false h k = let j : b ≤ a = ltb-false a b h in rw (h, eq-eqb a b (omega arith))

turned : (a b : ℕ) (c : Bool) → eqb a b ≡ c → eqb b a ≡ c
turned a b true h = eq-eqb b a (let k = eqb-true a b h in omega arith)
turned a b false h = ne_eqb b a (λ q. eqb-false a b h (omega arith))

under_of : (s t : Bool) (a b : ℕ) → (below s a t b || level s a t b) ≡ true → Under s a t b
under_of false false a b e = under_same a b (leb a b) refl e
under_of false true a b e =
    let w = parts (eqb a b) (eqb a 0) e in
    let x : a ≡ b = eqb-true a b w.0 in
    let y : a ≡ 0 = eqb-true a 0 w.1 in
    omega arith
under_of true false a b e = tt
under_of true true a b e = under_same b a (leb b a) refl (rw (turned a b (eqb a b) refl) e)

above_zero : (a b : ℕ) (c : Bool) → ltb 0 (a + b) ≡ c → (ltb 0 (a + b) || (eqb a b && eqb a 0)) ≡ true
above_zero a b true h = rw h
above_zero a b false h = let k : a + b ≤ 0 = ltb-false 0 (a + b) h in rw (h, eq-eqb a b (omega arith), eq-eqb a 0 (omega arith))

of_under : (s t : Bool) (a b : ℕ) → Under s a t b → (below s a t b || level s a t b) ≡ true
of_under false false a b u = same_under a b (ltb a b) refl u
of_under false true a b u = rw (eq-eqb a b (omega arith), eq-eqb a 0 u.0)
of_under true false a b u = above_zero a b (ltb 0 (a + b)) refl
of_under true true a b u = rw (turned b a (eqb b a) refl) (same_under b a (ltb b a) refl u)

-- only 0 times a number above 0 is 0
factor_zero : (n z : ℕ) → 0 < z → n * z ≤ 0 → n ≡ 0
factor_zero zero z h e = refl
factor_zero (suc n) z h e = let k : 0 < suc n * z = mul-pos (zero-lt-suc n) h in absurd (omega arith)

zero_times : (n z : ℕ) → n ≡ 0 → n * z ≡ 0
zero_times n z e = rw (e, zero-mul z)

under_trans : (s t u : Bool) (a b c x y z : ℕ) → 0 < x → 0 < y → 0 < z → Under s (a * y) t (b * x) → Under t (b * z) u (c * y) → Under s (a * z) u (c * x)
under_trans false false false a b c x y z X Y Z p q = through a b c x y z Y p q
under_trans false false true a b c x y z X Y Z p q =
    let m : b ≡ 0 = factor_zero b z Z (omega arith) in
    let l : b * x ≡ 0 = zero_times b x m in
    (zero_times a z (factor_zero a y Y (omega arith)), zero_times c x (factor_zero c y Y (omega arith)))
under_trans false true false a b c x y z X Y Z p q = let l : a * z ≡ 0 = zero_times a z (factor_zero a y Y (omega arith)) in omega arith
under_trans false true true a b c x y z X Y Z p q =
    let m : b ≡ 0 = factor_zero b x X (omega arith) in
    let l : b * z ≡ 0 = zero_times b z m in
    (zero_times a z (factor_zero a y Y (omega arith)), zero_times c x (factor_zero c y Y (omega arith)))
under_trans true t false a b c x y z X Y Z p q = tt
under_trans true false true a b c x y z X Y Z p q = let l : c * x ≡ 0 = zero_times c x (factor_zero c y Y (omega arith)) in omega arith
under_trans true true true a b c x y z X Y Z p q = through c b a z y x Y q p

pub le_trans : (x y z : Float) → le x y ≡ true → le y z ≡ true → le x z ≡ true
unfolding le lt eq
le_trans nan y z p q = no p
le_trans (inf true) y nan p q = absurd (no_le_nan y q)
le_trans (inf true) y (inf true) p q = refl
le_trans (inf true) y (inf false) p q = refl
le_trans (inf true) y (fin u n d) p q = refl
le_trans (inf false) nan z p q = no p
le_trans (inf false) (inf true) z p q = no p
le_trans (inf false) (inf false) z p q = q
le_trans (inf false) (fin t k c) z p q = no p
le_trans (fin s m e) nan z p q = no p
le_trans (fin s m e) (inf true) z p q = no p
le_trans (fin s m e) (inf false) nan p q = no q
le_trans (fin s m e) (inf false) (inf true) p q = no q
le_trans (fin s m e) (inf false) (inf false) p q = refl
le_trans (fin s m e) (inf false) (fin u n d) p q = no q
le_trans (fin s m e) (fin t k c) nan p q = no q
le_trans (fin s m e) (fin t k c) (inf true) p q = no q
le_trans (fin s m e) (fin t k c) (inf false) p q = refl
le_trans (fin s m e) (fin t k c) (fin u n d) p q =
    of_under s u (m * up e * down d) (n * up d * down e)
    (under_trans s t u (m * up e) (k * up c) (n * up d) (down e) (down c) (down d) (down_pos e) (down_pos c) (down_pos d)
    (under_of s t (m * up e * down c) (k * up c * down e) p) (under_of t u (k * up c * down d) (n * up d * down c) q))

-- of two numbers, x < y or y ≤ x
over : (s t : Bool) (a b : ℕ) → below s a t b ≡ false → Under t b s a
over false false a b e = ltb-false a b e
over false true a b e = tt
over true false a b e = let k : a + b ≤ 0 = ltb-false 0 (a + b) e in (omega arith, omega arith)
over true true a b e = ltb-false b a e

pub not_lt_le : (x y : Float) → le x x ≡ true → le y y ≡ true → lt x y ≡ false → le y x ≡ true
unfolding le lt eq
not_lt_le nan y p q e = no p
not_lt_le (inf s) nan p q e = no q
not_lt_le (fin s m d) nan p q e = no q
not_lt_le (inf true) (inf true) p q e = refl
not_lt_le (inf true) (inf false) p q e = no (sym e)
not_lt_le (inf true) (fin t k c) p q e = no (sym e)
not_lt_le (inf false) (inf true) p q e = refl
not_lt_le (inf false) (inf false) p q e = refl
not_lt_le (inf false) (fin t k c) p q e = refl
not_lt_le (fin s m d) (inf true) p q e = refl
not_lt_le (fin s m d) (inf false) p q e = no (sym e)
not_lt_le (fin s m d) (fin t k c) p q e = of_under t s (k * up c * down d) (m * up d * down c) (over s t (m * up d * down c) (k * up c * down d) e)
