-- Laws of the six slots: what a stored ray leaves in each (`put_same`, `put_other`), and that minus a height is never above 0 there (`put_reached`). Assumes nothing.
use Prim.Native.Nat.{ℕ, zero, suc, ◌<◌}
use mathlib.Core.Path.{◌≡◌, refl, sym, subst, ◌∙◌}
use mathlib.Core.Bool.{Bool, true, false}
use mathlib.Core.Logic.{◌≢◌}
use lib.Dec.{eqb}
use lib.ListN.{length, get_or, length-set, replicate}
use lib.Seq.{get_or-set_same, get_or-set_other}
use lib.Ieee.{Float, nan, of_bits, neg, lt, le}
use borrow.Author.Tests.{eqb-true, eqb-false}
use Rattle.arith.specs.Floats.{f32}
use Rattle.arith.proofs.Order.{no}
use Rattle.fdist.specs.declared.HopModes.{HopModes}
use Rattle.fdist.specs.declared.rays.Ray.{Ray}
use Rattle.fdist.specs.Fdist.{empty_of, put_of}
use Rattle.fdist.specs.Demand.{slot_of}

pub record Sized (m : HopModes) : Type 0 where
  pub dels : length m.delmod ≡ 6
  pub hps : length m.hpmod ≡ 6
  pub hts : length m.htmod ≡ 6
  pub fvs : length m.fvmod ≡ 6
  pub its : length m.itmod ≡ 6
  pub afs : length m.afmod ≡ 6

pub empty_sized : Sized empty_of
empty_sized = record { dels = refl; hps = refl; hts = refl; fvs = refl; its = refl; afs = refl }

-- a ray at another height
abbrev pub at_height : Ray → Float → Ray
at_height r hp = record { del = r.del; hp = hp; ht = r.ht; fv = r.fv; af = r.af; layer = r.layer }

module _ (m : HopModes) (i : ℕ) (r : Ray) (hp : Float) where
  pub put_sized : Sized m → Sized (put_of m i r hp)
  put_sized z = record {
    dels = simp length-set z.dels;
    hps = simp length-set z.hps;
    hts = simp length-set z.hts;
    fvs = simp length-set z.fvs;
    its = simp length-set z.its;
    afs = simp length-set z.afs;
  }

  pub put_same : Sized m → i < 6 → slot_of (put_of m i r hp) i ≡ at_height r hp
  put_same z h =
      rw (
        get_or-set_same m.delmod i r.del nan (rw z.dels h),
        get_or-set_same m.hpmod i hp nan (rw z.hps h),
        get_or-set_same m.htmod i r.ht nan (rw z.hts h),
        get_or-set_same m.fvmod i r.fv nan (rw z.fvs h),
        get_or-set_same m.afmod i r.af nan (rw z.afs h),
        get_or-set_same m.itmod i r.layer 0 (rw z.its h),
      )

  pub put_other : (n : ℕ) → n ≢ i → slot_of (put_of m i r hp) n ≡ slot_of m n
  put_other n h =
      rw (
        get_or-set_other m.delmod i n r.del nan h,
        get_or-set_other m.hpmod i n hp nan h,
        get_or-set_other m.htmod i n r.ht nan h,
        get_or-set_other m.fvmod i n r.fv nan h,
        get_or-set_other m.afmod i n r.af nan h,
        get_or-set_other m.itmod i n r.layer 0 h,
      )

-- of each slot: where its height is above 0, its angle reaches the minimum
abbrev pub Reaching : Float → Ray → Type 0
Reaching amind r = lt (f32 0) r.hp ≡ true → le amind r.del ≡ true

pub record Reached (amind : Float) (m : HopModes) : Type 0 where
  pub sized : Sized m
  pub slots : (n : ℕ) → Reaching amind (slot_of m n)

module _ (amind : Float) (m : HopModes) (i : ℕ) (r : Ray) (hp : Float) (small : i < 6) (was : Reached amind m) (ok : Reaching amind (at_height r hp)) where
  slot_reached : (n : ℕ) (t : Bool) → eqb n i ≡ t → Reaching amind (slot_of (put_of m i r hp) n)
  slot_reached n true e = subst (λ (k : ℕ). Reaching amind (slot_of (put_of m i r hp) k)) (sym (eqb-true n i e)) (subst (Reaching amind) (sym (put_same m i r hp was.sized small)) ok)
  slot_reached n false e = subst (Reaching amind) (sym (put_other m i r hp n (eqb-false n i e))) (was.slots n)

  pub put_reached : Reached amind (put_of m i r hp)
  put_reached = record { sized = put_sized m i r hp was.sized; slots = λ n. slot_reached n (eqb n i) refl }

empty_low : (n : ℕ) → lt (f32 0) (get_or (replicate 6 (neg (f32 0x3f80_0000))) n nan) ≡ false
unfolding of_bits neg lt
empty_low zero = refl
empty_low (suc zero) = refl
empty_low (suc (suc zero)) = refl
empty_low (suc (suc (suc zero))) = refl
empty_low (suc (suc (suc (suc zero)))) = refl
empty_low (suc (suc (suc (suc (suc zero))))) = refl
empty_low (suc (suc (suc (suc (suc (suc n)))))) = refl

pub empty_reached : (amind : Float) → Reached amind empty_of
empty_reached amind = record { sized = empty_sized; slots = λ n h. no (sym (empty_low n) ∙ h) }
