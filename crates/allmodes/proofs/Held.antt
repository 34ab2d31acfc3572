-- For `held_count` and `add_held`: the slots that a loop from i to `to` has still before it, by what slot i is; and what a turn that adds a slot makes of the list.
use Prim.Native.Nat.{ℕ, suc, ◌+◌, ◌-◌, ◌≤◌, ◌<◌}
use mathlib.Core.Path.{◌≡◌, refl}
use mathlib.Core.Bool.{true, false}
use mathlib.Core.List.{List, [], ◌∷◌}
use native.Mathlib.Numerals.{add-one}
use native.Mathlib.Omega.{arith}
use lib.Ieee.{Float}
use lib.ListN.{get_or, set}
use lib.IntN.{ℤ, pos}
use Rattle.allmodes.specs.declared.Zon.{Zon}
use Rattle.allmodes.specs.declared.AllModes.{AllModes}
use Rattle.allmodes.specs.AllModes.{put_reals, add_slot, holds, held}

module _ (hp : List Float) {i to : ℕ} where
  pub held_none : to ≤ i → held hp i (to - i) ≡ []
  unfolding held
  held_none h = let e : to - i ≡ 0 = omega arith in rw e

  pub held_one : i < to → holds hp i ≡ true → held hp i (to - i) ≡ i ∷ held hp (i + 1) (to - (i + 1))
  unfolding held
  held_one h e = let f : to - i ≡ suc (to - (i + 1)) = omega arith in rw (f, e, add-one i)

  pub held_not : i < to → holds hp i ≡ false → held hp i (to - i) ≡ held hp (i + 1) (to - (i + 1))
  unfolding held
  held_not h e = let f : to - i ≡ suc (to - (i + 1)) = omega arith in rw (f, e, add-one i)

-- slot i put at what is the list's end is slot i added
pub put_adds : (zon : Zon) (m : AllModes) (i : ℕ) {n : ℕ} {nmode : List ℤ} → n ≡ m.nmmod → nmode ≡ set m.nmode n (get_or zon.nmode i (pos 0)) → put_reals zon m i n nmode ≡ add_slot zon m i
unfolding add_slot
put_adds zon m i e f = cc

pub added_one : (zon : Zon) (m : AllModes) (i : ℕ) → (add_slot zon m i).nmmod ≡ m.nmmod + 1
unfolding add_slot put_reals
added_one zon m i = refl
