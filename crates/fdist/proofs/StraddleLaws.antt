-- The search gets to every pair that is not jumped, as long as heights stay above 0 and slots are left, and the ray that it accepts there stays in its slot (`run_holds`);
-- and lengths strictly on either side of d always give a ray (`straddle_gives`). Assumes nothing.
use Prim.Native.Nat.{ℕ, zero, suc, ◌+◌, ◌-◌, ◌≤◌, ◌<◌}
use mathlib.Core.Path.{◌≡◌, refl, sym, ap, subst, ◌∙◌}
use mathlib.Core.Bool.{Bool, true, false, cond, not, ◌&&◌, ◌||◌}
use mathlib.Core.Logic.{◌⊎◌, inl, inr, ⊎_elim}
use native.Mathlib.Nat.{eq-or-lt_of_le, add-zero}
use native.Mathlib.Numerals.{add-one}
use native.Mathlib.Omega.{arith}
use lib.Dec.{eqb}
use lib.Ieee.{Float, lt, le}
use borrow.Author.Tests.{eqb-true, eqb-false}
use Rattle.arith.proofs.Order.{no}
use Rattle.arith.specs.Run.{Next}
use Rattle.arith.proofs.RunLaws.{Kept, run_keeps, run_same}
use Rattle.fdist.specs.declared.Searched.{Searched}
use Rattle.fdist.specs.declared.pairs.Pair.{Pair}
use Rattle.fdist.specs.declared.pairs.Pair.TheVariants.{Nothing, Row, Spot}
use Rattle.fdist.specs.declared.rays.Ray.{Ray}
use Rattle.std.specs.Prelude.{Some}
use Rattle.fdist.specs.Pairs.{pair_of, next_of}
use Rattle.fdist.proofs.PairLaws.{pair_within, Gives, rising_gives, falling_gives}
use Rattle.fdist.specs.Requires.{Within}
use Rattle.fdist.specs.Rays.{given_of}
use Rattle.fdist.specs.Fdist.{Rows, pair_at, Search, start, empty_of, found_by, none_of, put_of, low, turn_of, turns, run_of}
use Rattle.fdist.specs.Demand.{ray_of, straddles, reaches, gives_second, jumped, before, slot_of}
use Rattle.fdist.proofs.TurnLaws.{next_at, Ways, turn_ways, turn_falls, left}
use Rattle.fdist.proofs.SlotLaws.{Sized, empty_sized, put_sized, put_same, put_other}

less : (a b : ℕ) → a ≤ b → (a ≡ b → ⊥) → a < b
less a b h d = ⊎_elim (λ e. absurd (d e)) (λ l. l) (eq-or-lt_of_le h)

-- the next pair: a second row jumps one
row_next : (i k : ℕ) → i ≤ k → k ≤ i + 1 → (t : Bool) → eqb k (i + 1) ≡ t → k + 1 ≡ cond t (i + 1 + 1) (i + 1)
row_next i k u v true e = let h : k ≡ i + 1 = eqb-true k (i + 1) e in omega arith
row_next i k u v false e = let h : k < i + 1 = less k (i + 1) v (eqb-false k (i + 1) e) in omega arith

next_second : (i : ℕ) (p : Pair) → Within i p → next_of i p ≡ cond (gives_second i p) (i + 1 + 1) (i + 1)
next_second i Nothing w = refl
next_second i (Row k) w = row_next i k w.0 w.1 (eqb k (i + 1)) refl
next_second i (Spot x y) w = refl

grows : (n : ℕ) (t : Bool) → n ≤ n + cond t 1 0
grows n true = omega arith
grows n false = omega arith

module _ (t : Rows) (d amind freq : Float) where
  jumped_next : (a : ℕ) → jumped t d (a + 1) ≡ (not (jumped t d a) && gives_second a (pair_at t d a))
  unfolding jumped
  jumped_next a = ap (jumped t d) (add-one a)

  before_next : (a : ℕ) → before t d amind freq (a + 1) ≡ before t d amind freq a + cond (not (jumped t d a) && reaches amind (ray_of t d freq a)) 1 0
  unfolding before
  before_next a = ap (before t d amind freq) (add-one a)

  before_mono : (k a : ℕ) → before t d amind freq a ≤ before t d amind freq (a + k)
  before_mono zero a = let e : a + 0 ≡ a = omega arith in rw e (omega arith)
  before_mono (suc k) a =
      let e : a + suc k ≡ a + k + 1 = omega arith in
      let g : before t d amind freq (a + k) ≤ before t d amind freq (a + k + 1) =
      rw (before_next (a + k)) (grows (before t d amind freq (a + k)) (not (jumped t d (a + k)) && reaches amind (ray_of t d freq (a + k))))
      in
      rw e (omega (arith, before_mono k a, g))

  module _ (i : ℕ) (r : Ray) (last : i < 44) (high : (j : ℕ) → j ≤ i → jumped t d j ≡ false → low t j ≡ false) (fresh : jumped t d i ≡ false)
      (gives : ray_of t d freq i ≡ Some r) (reached : le amind r.del ≡ true) (few : before t d amind freq i < 6) where
    -- on the way to pair i: at a pair that is not jumped, with the rays before it accepted
    record Coming (at rays : ℕ) : Type 0 where
      on_way : at ≤ i
      not_jumped : jumped t d at ≡ false
      counted : rays ≡ before t d amind freq at

    -- past it: its ray stands in its slot
    record Holding (s : Search) : Type 0 where
      past : before t d amind freq i < s.rays
      holds : slot_of s.m (before t d amind freq i) ≡ r

    few_at : (a : ℕ) → a ≤ i → before t d amind freq a < 6
    few_at a h = let e : a + (i - a) ≡ i = omega arith in omega (arith, rw e at (before_mono (i - a) a))

    -- the next turn is on the way too
    goes_on : {at rays : ℕ} (second : Bool) → Coming at rays → at < i → gives_second at (pair_at t d at) ≡ second
        → Coming (cond second (at + 1 + 1) (at + 1)) (rays + cond (reaches amind (ray_of t d freq at)) 1 0)
    goes_on {at} {rays} false c h e = record {
      on_way = omega arith;
      not_jumped = rw (jumped_next at, c.not_jumped, e);
      counted = rw (before_next at, c.not_jumped, ← c.counted);
    }
    goes_on {at} {rays} true c h e =
        let j : jumped t d (at + 1) ≡ true = rw (jumped_next at, c.not_jumped, e) in
        let far : at + 1 < i = less (at + 1) i (omega arith) (λ k. no (sym fresh ∙ ap (jumped t d) (sym k) ∙ j)) in
        record {
          on_way = omega arith;
          not_jumped = rw (jumped_next (at + 1), j);
          counted = rw (before_next (at + 1), j, before_next at, c.not_jumped, ← c.counted) (omega arith);
        }

    next_on : {at rays : ℕ} → Coming at rays → at < i → Coming (next_at t d at) (rays + cond (reaches amind (ray_of t d freq at)) 1 0)
    next_on {at} {rays} c h = rw (next_second at (pair_at t d at) (pair_within at (t.gd at) (t.gd (at + 1)) d)) (goes_on (gives_second at (pair_at t d at)) c h refl)

    -- how many rays the way to pair i has left room for
    room : {at rays : ℕ} → Coming at rays → rays < 6
    room {at} c = omega (arith, few_at at c.on_way, c.counted)

    abbrev Kept-so : Next Search Searched → Type 0
    Kept-so = Kept (λ (s : Search). (Coming s.at s.rays × Sized s.m) ⊎ Holding s) (λ (a : Searched). slot_of a.m (before t d amind freq i) ≡ r)

    -- past the pair, a slot above takes what comes
    after_hit : (s : Search) → Holding s → (x : Ray) (hp : Float) → slot_of (put_of s.m s.rays x hp) (before t d amind freq i) ≡ r
    after_hit s h x hp = put_other s.m s.rays x hp (before t d amind freq i) (λ e. omega (arith, h.past)) ∙ h.holds

    past_keeps : (s : Search) → Holding s → Ways t d amind freq s Kept-so
    past_keeps s h = record {
      ends = λ _. h.holds;
      passes = λ w e. inr (record { past = h.past; holds = h.holds });
      sixth = λ x w e a k. after_hit s h x x.hp;
      accepts = λ x w e a k. inr (record { past = omega (arith, h.past); holds = after_hit s h x x.hp });
      lowers = λ x w e a. inr (record { past = h.past; holds = after_hit s h x _ });
    }

    -- at the pair itself
    hit : (s : Search) → Sized s.m → s.at ≡ i → s.rays ≡ before t d amind freq i → (x : Ray) → ray_of t d freq s.at ≡ Some x
        → slot_of (put_of s.m s.rays x x.hp) (before t d amind freq i) ≡ r
    hit s z e n x g =
        let same : x ≡ r = cc (ap (ray_of t d freq) e, gives) in
        rw (← n) (put_same s.m s.rays x x.hp z (rw n few) ∙ same)

    early : (s : Search) → Coming s.at s.rays → (44 ≤ s.at) ⊎ (low t s.at ≡ true) → ⊥
    early s c (inl k) = omega (arith, c.on_way)
    early s c (inr k) = no (sym (high s.at c.on_way c.not_jumped) ∙ k)

    here_keeps : (s : Search) → Coming s.at s.rays → Sized s.m → s.at ≡ i → Ways t d amind freq s Kept-so
    here_keeps s c z e =
        let n : s.rays ≡ before t d amind freq i = c.counted ∙ ap (before t d amind freq) e in
        let g : ray_of t d freq s.at ≡ Some r = ap (ray_of t d freq) e ∙ gives in record {
          ends = λ k. absurd (early s c k);
          passes = λ w a. let x : ◌≡◌ {A = ℕ} 0 1 = cc in absurd (omega arith);
          sixth = λ x w p a k. hit s z e n x p;
          accepts = λ x w p a k. inr (record { past = omega arith; holds = hit s z e n x p });
          lowers = λ x w p a. let same : x ≡ r = cc in no (sym a ∙ rw same reached);
        }

    next_more : {at rays : ℕ} → Coming at rays → at < i → reaches amind (ray_of t d freq at) ≡ true → Coming (next_at t d at) (rays + 1)
    next_more c h e = rw e at (next_on c h)

    next_same : {at rays : ℕ} → Coming at rays → at < i → reaches amind (ray_of t d freq at) ≡ false → Coming (next_at t d at) rays
    next_same {at} {rays} c h e = subst (Coming (next_at t d at)) (add-zero rays) (rw e at (next_on c h))

    way_keeps : (s : Search) → Coming s.at s.rays → Sized s.m → s.at < i → Ways t d amind freq s Kept-so
    way_keeps s c z h = record {
      ends = λ k. absurd (early s c k);
      passes = λ w e. inl (next_same c h (rw e), z);
      sixth = λ x w e a k. absurd (omega (arith, room (next_more c h (rw (e, a)))));
      accepts = λ x w e a k. inl (next_more c h (rw (e, a)), put_sized s.m s.rays x x.hp z);
      lowers = λ x w e a. inl (next_same c h (rw (e, a)), put_sized s.m s.rays x _ z);
    }

    turn_keeps : (s : Search) → (Coming s.at s.rays × Sized s.m) ⊎ Holding s → Kept-so (turn_of t d amind freq s)
    turn_keeps s (inl (c, z)) =
        ⊎_elim (λ e. turn_ways t d amind freq s Kept-so (here_keeps s c z e)) (λ h. turn_ways t d amind freq s Kept-so (way_keeps s c z h)) (eq-or-lt_of_le c.on_way)
    turn_keeps s (inr h) = turn_ways t d amind freq s Kept-so (past_keeps s h)

    -- the run, whatever it would answer out of fuel
    pub run_holds : slot_of (run_of t d amind freq).m (before t d amind freq i) ≡ r
    unfolding run_of jumped before
    run_holds =
        let spare : Searched = found_by 0 0 (put_of empty_of (before t d amind freq i) r r.hp) in
        let same = run_same (turn_of t d amind freq) (λ _. Unit {0}) left (turn_falls t d amind freq) (λ s. omega arith) none_of spare turns turns start tt (omega arith) (omega arith) in
        rw same (run_keeps (turn_of t d amind freq) spare _ (λ (a : Searched). slot_of a.m (before t d amind freq i) ≡ r) turn_keeps (put_same empty_of (before t d amind freq i) r r.hp empty_sized few) turns start (inl (record { on_way = omega arith; not_jumped = refl; counted = refl }, empty_sized)))

-- lengths strictly on either side of d always give a ray
straddle_by : (i : ℕ) (g1 g2 d : Float) (a b x y : Bool) → lt g1 d ≡ a → lt d g2 ≡ b → lt g2 d ≡ x → lt d g1 ≡ y → ((a && b) || (x && y)) ≡ true → Gives (pair_of i g1 g2 d)
straddle_by i g1 g2 d true true x y p q u v e = rising_gives i g1 g2 d p q
straddle_by i g1 g2 d true false true true p q u v e = falling_gives i g1 g2 d u v
straddle_by i g1 g2 d true false true false p q u v e = no e
straddle_by i g1 g2 d true false false y p q u v e = no e
straddle_by i g1 g2 d false b true true p q u v e = falling_gives i g1 g2 d u v
straddle_by i g1 g2 d false b true false p q u v e = no e
straddle_by i g1 g2 d false b false y p q u v e = no e

present : (row : ℕ → Ray) (d freq : Float) (i : ℕ) (p : Pair) → Gives p → (r : Ray) × (given_of row d freq i p ≡ Some r)
present row d freq i Nothing g = absurd g
present row d freq i (Row k) g = (row k, refl)
present row d freq i (Spot x y) g = (_, refl)

pub straddle_gives : (t : Rows) (d freq : Float) (i : ℕ) → straddles (t.gd i) (t.gd (i + 1)) d ≡ true → (r : Ray) × (ray_of t d freq i ≡ Some r)
straddle_gives t d freq i e = present t.row d freq i (pair_at t d i) (straddle_by i (t.gd i) (t.gd (i + 1)) d _ _ _ _ refl refl refl refl e)
