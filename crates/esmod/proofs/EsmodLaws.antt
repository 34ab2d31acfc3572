-- Order 1, what its sentences say of esmod's definition. Assumes nothing.
use mathlib.Core.Path.{◌≡◌, refl, sym, ap, ◌∙◌, subst}
use mathlib.Core.Bool.{Bool, true, false, cond}
use mathlib.Core.List.{List, []}
use mathlib.Core.Logic.{◌⊎◌, inl, inr, ⊎_elim}
use Prim.Native.Nat.{ℕ, zero, suc, ◌-◌, ◌^◌, ◌≤◌, ◌<◌, zero-le, suc-le-suc}
use native.Mathlib.Nat.{eq-or-lt_of_le, le_of_suc-le-suc, lt_of_le_of_lt, mul-le-mul_right, zero-lt-suc}
use native.Mathlib.Omega.{arith}
use lib.Dec.{T, leb, lit<}
use lib.ListN.{get_or}
use lib.IntN.{pos, negsuc}
use lib.Ieee.{Float, nan, fin, binary32, of_bits, le, lt, eq, neg, add, sub, mul, sum, fits, of_int, to_unsigned, to_signed, round, size, units, odd}
use lib.Ieee.Order.{le_of_values}
use lib.Ieee.Positive.{positive, above, above_of_le, between, le_trans_positive, mul_mono, positive_of_value, sub_anti}
use lib.Ieee.Scale.{finite}
use Rattle.arith.specs.Floats.{f32, scaled, ◌⊕◌, ◌⊖◌, ◌⊗◌, ◌⊘◌, RZ, R2D, PIO2, VOFL}
use Rattle.arith.specs.Numbers.{0·0, 1·0, 2·0, 80·0, 100·0, 200·0, 20100·0}
use Rattle.arith.proofs.Order.{no, flag, le_trans, le_number, not_lt_le, float_trans, float_irrefl, float_not_le}
use Rattle.arith.proofs.RoundedLaws.{difference_above, finite_within, quotient_from_0, sum_1, from_1_above, inverse_to_1, cut_from, cut_is, cut_signed}
use Rattle.limits.specs.Limits.{within, broken, km_within, hs_within, gcdkm_within, fs_within, points_within, es_within}
use Rattle.limits.proofs.LimitsLaws.{both, km_within_lem, points_within_lem}
use Rattle.angles.specs.Grid.{in_steps, zero32, one32}
use Rattle.angles.specs.Grid as grid
use Rattle.angles.specs.Arcsine.{asin_of, asin_steps}
use Rattle.angles.proofs.GridLaws.{in_steps_value}
use Rattle.angles.proofs.ArcsineLaws.{asin_inside, asin_steps_below}
use Rattle.esmod.specs.Esmod.{middle_of, point_of, empty_hop, thet_of, del_of, path_of, hop_of, sdmax_of, ihsrt_of, slot_of, no_hops, hops_of, modes_of, limits_of, answer_of, esmod_of}
use Rattle.esmod.specs.declared.EsHop.{EsHop}
use Rattle.esmod.specs.declared.EsModes.{EsModes}
use Rattle.esmod.proofs.Accepted.{accepted, point_counted}
use Rattle.esmod.proofs.HopsLaws.{slot_beyond}

abbrev pub 3·0 : Float
3·0 = f32 0x4040_0000

-- ---- the first hop

-- a quarter turn less k steps: k is at most the arcsine's last step, and that is 2 ^ -23 short of it
quarter_less : (k : ℕ) → k ≤ 6588397 → let d = PIO2 ⊖ in_steps false k in T (positive d) × T (le (fin false 1 (negsuc 22)) d)
unfolding in_steps of_int of_bits mul sub add neg sum round size units odd le lt eq
quarter_less zero l = (tt, tt)
quarter_less (suc k) l =
    let y = in_steps false (suc k) in
    let step = fin false 1 (negsuc 21) in
    let top = fin false 6588397 (negsuc 21) in
    let v = in_steps_value false (suc k) (lt_of_le_of_lt l (lit< tt)) in
    let p = positive_of_value y (suc k) (2 ^ 22) v (zero-lt-suc k) in
    let under = le_of_values y top (suc k) (2 ^ 22) 6588397 (2 ^ 22) (lit< tt) (lit< tt) v (refl, refl) (mul-le-mul_right (2 ^ 22) l) in
    let lo = sub_anti binary32 PIO2 y top tt p tt under tt in
    let hi = sub_anti binary32 PIO2 step y tt tt p (le_of_values step y 1 (2 ^ 22) (suc k) (2 ^ 22) (lit< tt) (lit< tt) (refl, refl) v (mul-le-mul_right (2 ^ 22) (suc-le-suc zero-le))) (le_trans_positive y top PIO2 p tt tt under tt) in
    (between (PIO2 ⊖ top) (PIO2 ⊖ y) (PIO2 ⊖ step) tt tt lo hi, lo)

-- the arcsine from 0 to 1
steps_of : (z : Float) → le 0·0 z ≡ true → le z 1·0 ≡ true → in_steps false (asin_steps (scaled 57 z)) ≡ asin_of z
unfolding grid.within of_bits
steps_of z h l = rw (flag (lt z zero32) (λ q. no (sym (float_not_le z zero32 q) ∙ h))) at (asin_inside z (rw (le_trans (neg one32) 0·0 z (unfold le lt eq neg in refl) h, l)))

-- the farthest hop is above 0
sdmax_above : (hs : Float) → hs_within hs ≡ true → T (above (sdmax_of hs))
unfolding sdmax_of within of_bits
sdmax_above hs w =
    let b = both (le 80·0 hs) (le hs 200·0) w in
    let x = 1·0 ⊕ (hs ⊘ RZ) in
    let z = 1·0 ⊘ x in
    let h = (sum_1 (hs ⊘ RZ) (quotient_from_0 hs RZ (finite_within 80·0 hs 200·0 tt tt b.0 b.1) (le_trans 0·0 80·0 hs (unfold le lt eq in refl) b.0) tt)).1 in
    let k = asin_steps (scaled 57 z) in
    let q = quarter_less k (asin_steps_below (scaled 57 z)) in
    let c = 2·0 ⊗ RZ in
    let lo = fin false 1 (negsuc 22) in
    rw (← steps_of z (quotient_from_0 1·0 x tt (unfold le lt eq in refl) (from_1_above x h)) (inverse_to_1 x h))
    (above_of_le (c ⊗ lo) (c ⊗ (PIO2 ⊖ in_steps false k)) (unfold mul round size units odd in tt) (mul_mono binary32 c c lo (PIO2 ⊖ in_steps false k) (unfold mul round size units odd in tt) (unfold mul round size units odd in tt) tt q.0 (unfold le lt eq mul round size units odd in tt) q.1))

pub first_hop : (hs gcdkm : Float) → hs_within hs ≡ true → gcdkm_within gcdkm ≡ true → le 1·0 ((gcdkm ⊘ sdmax_of hs) ⊕ 1·0) ≡ true
unfolding within of_bits
first_hop hs gcdkm w g =
    let b = both (le 0·0 gcdkm) (le gcdkm 20100·0) g in
    (sum_1 (gcdkm ⊘ sdmax_of hs) (quotient_from_0 gcdkm (sdmax_of hs) (finite_within 0·0 gcdkm 20100·0 tt tt b.0 b.1) b.0 (sdmax_above hs w))).0

-- cut by comparison: 3 or more, 2, 1
pub cut_3 : (x : Float) → le 3·0 x ≡ true → 3 ≤ to_unsigned 31 x
unfolding of_bits
cut_3 x = cut_from 2 3·0 x (refl, refl) (lit< tt)

pub cut_2 : (x : Float) → le 2·0 x ≡ true → le 3·0 x ≡ false → to_unsigned 31 x ≡ 2
unfolding of_bits
cut_2 x = cut_is 1 2·0 3·0 x (refl, refl) (refl, refl) (lit< tt)

pub cut_1 : (x : Float) → le 1·0 x ≡ true → le 2·0 x ≡ false → to_unsigned 31 x ≡ 1
unfolding of_bits
cut_1 x = cut_is 0 1·0 2·0 x (refl, refl) (refl, refl) (lit< tt)

module _ (hs gcdkm : Float) (w : hs_within hs ≡ true) (g : gcdkm_within gcdkm ≡ true) where
  pub from_hop_1 : 1 ≤ ihsrt_of hs gcdkm
  unfolding ihsrt_of of_bits
  from_hop_1 = cut_from 0 1·0 ((gcdkm ⊘ sdmax_of hs) ⊕ 1·0) (refl, refl) (lit< tt) (first_hop hs gcdkm w g)

  -- the Rust's cut to an i32
  pub ihsrt_signed : to_signed 31 ((gcdkm ⊘ sdmax_of hs) ⊕ 1·0) ≡ pos (ihsrt_of hs gcdkm)
  unfolding ihsrt_of
  ihsrt_signed = let x = (gcdkm ⊘ sdmax_of hs) ⊕ 1·0 in cut_signed x (from_1_above x (first_hop hs gcdkm w g))

-- ---- the point: "which is the smallest middle fs and not the largest"

pub record Smallest (fs : List (List Float)) (km k : ℕ) : Type 0 where
  -- it is counted
  pub counted : k < km
  -- no counted point's middle fs is below its
  pub smallest : (i : ℕ) → i < km → lt (middle_of fs i) (middle_of fs k) ≡ false
  -- every earlier one's is above it: of equals it is the first
  pub first : (i : ℕ) → i < k → lt (middle_of fs k) (middle_of fs i) ≡ true

-- x < y ≤ z
below_through : (x y z : Float) → le x x ≡ true → le y y ≡ true → le z z ≡ true → lt x y ≡ true → lt z y ≡ false → lt x z ≡ true
below_through x y z p q r h k = go (lt x z) refl
  where
    go : (t : Bool) → lt x z ≡ t → t ≡ true
    go true e = refl
    go false e = no (sym (float_not_le x y h) ∙ le_trans y z x (not_lt_le z y r q k) (not_lt_le x z p r e))

-- i is the last of those up to n, or one before
last_or : {P : ℕ → Type 0} (n : ℕ) → P n → ((i : ℕ) → i < n → P i) → (i : ℕ) → i < suc n → P i
last_or {P} n p q i l = ⊎_elim (λ e. subst P (sym e) p) (q i) (eq-or-lt_of_le (le_of_suc-le-suc l))

module _ (fs : List (List Float)) where
  abbrev mid : ℕ → Float
  mid = middle_of fs

  step : (n k : ℕ) (t : Bool) → t ≡ lt (mid n) (mid k) → ((i : ℕ) → i < suc n → le (mid i) (mid i) ≡ true) → Smallest fs n k → Smallest fs (suc n) (cond t n k)
  step n k true e f s = record {
    counted = omega arith;
    smallest = last_or n (float_irrefl (mid n)) (λ i l. flag _ (λ q. no (sym (s.smallest i l) ∙ float_trans (mid i) (mid n) (mid k) q (sym e))));
    first = λ i l. below_through (mid n) (mid k) (mid i) (f n (omega arith)) (f k (omega (arith, s.counted))) (f i (omega arith)) (sym e) (s.smallest i l);
  }
  step n k false e f s = record { counted = omega (arith, s.counted); smallest = last_or n (sym e) s.smallest; first = s.first }

  alone : (k : ℕ) → k ≤ 0 → Smallest fs 1 k
  alone k h = record { counted = omega arith; smallest = λ i l. subst (λ (j : ℕ). lt (mid j) (mid k) ≡ false) (omega arith) (float_irrefl (mid k)); first = λ i l. absurd (omega arith) }

  module _ (km : ℕ) (w : (i : ℕ) → i < km → fs_within (mid i) ≡ true) (f : (i : ℕ) → i < km → T (fits binary32 (mid i))) where
    real : (i : ℕ) → i < km → T (finite (mid i)) × (le (mid i) (mid i) ≡ true)
    unfolding within of_bits
    real i l = let b = both (le 0·0 (mid i)) (le (mid i) 100·0) (w i l) in (finite_within 0·0 (mid i) 100·0 tt tt b.0 b.1, le_number 0·0 (mid i) b.0)

    from_first : (n : ℕ) → suc n ≤ km → Smallest fs (suc n) (point_of fs (suc n))
    unfolding point_of
    from_first zero h = alone (point_of fs 1) (point_counted fs 0)
    from_first (suc n) h =
        let k = point_of fs (suc n) in
        let K : k < km = omega (arith, point_counted fs n) in
        step (suc n) k (lt 0·0 (mid k ⊖ mid (suc n))) (difference_above (mid k) (mid (suc n)) (real k K).0 (real (suc n) h).0 (f k K) (f (suc n) h)) (λ i l. (real i (omega arith)).1) (from_first n (omega arith))

    all : 1 ≤ km → Smallest fs km (point_of fs km)
    all h = subst (λ (n : ℕ). Smallest fs n (point_of fs n)) (omega arith) (from_first (km - 1) (omega arith))

pub point_smallest : (km : ℕ) (fs : List (List Float)) (hs : List Float) (gcd gcdkm fsdead : Float) → es_within km fs hs gcd gcdkm fsdead ≡ true → ((i : ℕ) → i < km → T (fits binary32 (middle_of fs i))) → Smallest fs km (point_of fs km)
unfolding es_within
point_smallest km fs hs gcd gcdkm fsdead e f =
    let a = both (km_within km) _ e in
    let p = (both (points_within fs hs km) _ a.1).0 in
    all fs km (λ i l. (both (fs_within (middle_of fs i)) _ (both (fs_within (get_or (get_or fs i []) 0 nan)) _ (both (hs_within (get_or hs i nan)) _ (points_within_lem fs hs km i p l)).1).1).0) f (km_within_lem km a.0).0

-- ---- the slots

-- what became of a hop in its slot
pub record Slot (hs amind : Float) (hop : ℕ) (r : EsHop) : Type 0 where
  -- "Two hops at most are tried": beyond the second it is empty
  pub beyond : 2 < hop → r ≡ empty_hop
  -- "A hop below amind uses up its slot and leaves the empty values there": it is empty, or this hop's, at the chosen point's height and not below amind
  pub used : (r ≡ empty_hop) ⊎ ((r.hn ≡ of_int binary32 (pos hop)) × (r.hp ≡ hs) × (lt r.b amind ≡ false))

-- the two slots, at the chosen point's height
pub record Slots (hs gcdkm amind : Float) (r : EsModes) : Type 0 where
  -- the first hop is 1 at least
  pub from_1 : 1 ≤ ihsrt_of hs gcdkm
  -- slot 4 is for the first hop, slot 5 for the next
  pub in_4 : Slot hs amind (ihsrt_of hs gcdkm) r.slot4
  pub in_5 : Slot hs amind (suc (ihsrt_of hs gcdkm)) r.slot5

empty_slot : (hs amind : Float) (hop : ℕ) → Slot hs amind hop empty_hop
empty_slot hs amind hop = record { beyond = λ h. refl; used = inl refl }

slot_is : (hs gcd amind : Float) (hop : ℕ) → Slot hs amind hop (slot_of hs gcd amind hop)
unfolding slot_of hop_of
slot_is hs gcd amind hop =
    let gp = of_int binary32 (pos hop) in
    let thet = thet_of gcd gp in
    let del = del_of hs thet in
    record { beyond = slot_beyond hs gcd amind hop; used = go (leb hop 2) (lt (del ⊗ R2D) amind) (del ⊗ R2D) (path_of hs gp thet del ⊘ VOFL) refl }
  where
    go : (t u : Bool) (x z : Float) → lt x amind ≡ u → let r = cond t (cond u empty_hop (record { b = x; hn = of_int binary32 (pos hop); hp = hs; timed = z })) empty_hop in (r ≡ empty_hop) ⊎ ((r.hn ≡ of_int binary32 (pos hop)) × (r.hp ≡ hs) × (lt r.b amind ≡ false))
    go true true x z e = inl refl
    go true false x z e = inr (refl, refl, e)
    go false u x z e = inl refl

-- slot 5, whatever became of slot 4
pub next_in_5 : (hs gcd gcdkm amind : Float) → (hops_of hs gcd gcdkm amind).slot5 ≡ slot_of hs gcd amind (suc (ihsrt_of hs gcdkm))
unfolding hops_of
next_in_5 hs gcd gcdkm amind = refl

module _ (km : ℕ) (fs : List (List Float)) (hs : List Float) (gcd gcdkm amind freq fsdead : Float) where
  pub slots : broken (limits_of km fs hs gcd gcdkm amind freq fsdead) ≡ 0 → Slots (get_or hs (point_of fs km) nan) gcdkm amind (esmod_of km fs hs gcd gcdkm amind freq fsdead)
  unfolding esmod_of modes_of hops_of answer_of
  slots e =
      let a = accepted km fs hs gcd gcdkm amind freq fsdead e in
      let k = point_of fs km in
      rw e (go (get_or hs k nan) (from_hop_1 (get_or hs k nan) gcdkm a.chosen a.path) (le freq fsdead) (le (middle_of fs k) 0·0))
    where
      go : (h : Float) → 1 ≤ ihsrt_of h gcdkm → (t u : Bool) → Slots h gcdkm amind (cond t (no_hops 0) (cond u (no_hops 0) (hops_of h gcd gcdkm amind)))
      go h l true u = record { from_1 = l; in_4 = empty_slot h amind _; in_5 = empty_slot h amind _ }
      go h l false true = record { from_1 = l; in_4 = empty_slot h amind _; in_5 = empty_slot h amind _ }
      go h l false false = record { from_1 = l; in_4 = slot_is h gcd amind _; in_5 = slot_is h gcd amind _ }

-- ---- "of the points, only those counted"

module _ (fs fs' : List (List Float)) (hs hs' : List Float) where
  -- two inputs have the same first km points
  abbrev pub Agree : ℕ → Type 0
  Agree km = (i : ℕ) → i < km → (get_or fs i [] ≡ get_or fs' i []) × (get_or hs i nan ≡ get_or hs' i nan)

  same_middle : (km i : ℕ) → Agree km → i < km → middle_of fs i ≡ middle_of fs' i
  same_middle km i a l = ap (λ (r : List Float). get_or r 1 nan) (a i l).0

  same_points : (n : ℕ) → Agree n → points_within fs hs n ≡ points_within fs' hs' n
  unfolding points_within
  same_points zero a = refl
  same_points (suc n) a = rw (same_points n (λ i l. a i (omega arith)), (a n (omega arith)).0, (a n (omega arith)).1)

  reach : (n : ℕ) → point_of fs n ≤ n
  unfolding point_of
  reach zero = omega arith
  reach (suc n) = omega (arith, point_counted fs n)

  same_point : (n : ℕ) → Agree n → point_of fs n ≡ point_of fs' n
  unfolding point_of
  same_point zero a = refl
  same_point (suc n) a = rw (same_middle (suc n) (point_of fs n) a (omega (arith, reach n)), same_middle (suc n) n a (omega arith), same_point n (λ i l. a i (omega arith)))

  module _ (km : ℕ) (gcd gcdkm amind freq fsdead : Float) (a : Agree km) where
    same_limits : limits_of km fs hs gcd gcdkm amind freq fsdead ≡ limits_of km fs' hs' gcd gcdkm amind freq fsdead
    unfolding limits_of es_within
    same_limits = rw (same_points km a)

    same_answer : (n : ℕ) (m m' : EsModes) → (n ≡ 0 → m ≡ m') → answer_of n m ≡ answer_of n m'
    unfolding answer_of
    same_answer zero m m' h = h refl
    same_answer (suc n) m m' h = refl

    pub only_counted : esmod_of km fs hs gcd gcdkm amind freq fsdead ≡ esmod_of km fs' hs' gcd gcdkm amind freq fsdead
    unfolding esmod_of
    only_counted =
        let k = point_of fs km in
        let k' = point_of fs' km in
        let m' = modes_of (middle_of fs' k') (get_or hs' k' nan) gcd gcdkm amind freq fsdead in
        same_answer (broken (limits_of km fs hs gcd gcdkm amind freq fsdead)) (modes_of (middle_of fs k) (get_or hs k nan) gcd gcdkm amind freq fsdead) m'
        (λ z. let l = (accepted km fs hs gcd gcdkm amind freq fsdead z).counted in rw (same_middle km k a l, (a k l).1, same_point km a))
        ∙ ap (λ (ls : List (ℕ × Bool)). answer_of (broken ls) m') same_limits
