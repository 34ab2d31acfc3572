-- Every number in the slots is one of f32, and every layer is small, where that holds of the rows. Assumes nothing.
use Prim.Native.Nat.{ℕ, ◌+◌, ◌≤◌}
use mathlib.Core.Path.{◌≡◌, subst}
use mathlib.Core.Bool.{Bool, true, false, cond}
use native.Mathlib.Omega.{arith}
use lib.ListN.{get_or, replicate}
use lib.Ieee.{Float, nan, neg, le}
use Rattle.arith.specs.Floats.{◌⊗◌, f32, RZ, abs_of}
use Rattle.arith.specs.Run.{Next}
use Rattle.arith.proofs.RunLaws.{Kept, run_keeps}
use Rattle.limits.specs.Limits.{broken}
use Rattle.findf.specs.declared.Reflectrix.{Reflectrix}
use Rattle.findf.proofs.FitLaws.{Single, single_bits, single_nan, single_add, single_mul, single_neg, single_abs, set_all, same_all, Fitting}
use Rattle.fdist.specs.declared.HopModes.{HopModes}
use Rattle.fdist.specs.declared.Searched.{Searched}
use Rattle.fdist.specs.declared.pairs.Pair.{Pair}
use Rattle.fdist.specs.declared.pairs.Pair.TheVariants.{Nothing, Row, Spot}
use Rattle.fdist.specs.declared.rays.Ray.{Ray}
use Rattle.std.specs.Prelude.{Some}
use Rattle.fdist.specs.Rays.{spot_of, given_of}
use Rattle.fdist.specs.Fdist.{Rows, rows_of, pair_at, Search, start, empty_of, put_of, none_of, turn_of, turns, run_of, search_by, limits_of, fdist_by, fdist_of}
use Rattle.fdist.specs.Demand.{ray_of, slot_of}
use Rattle.fdist.proofs.TurnLaws.{turn_ways}

-- a ray whose numbers are of f32
pub record Fits (r : Ray) : Type 0 where
  pub del : Single r.del
  pub hp : Single r.hp
  pub ht : Single r.ht
  pub fv : Single r.fv
  pub af : Single r.af
  pub layer : r.layer ≤ 5

-- six slots of such rays
pub record Slots (m : HopModes) : Type 0 where
  pub each : (n : ℕ) → Fits (slot_of m n)

spot_fits : (a b : Ray) (dth dth2 d freq : Float) → a.layer ≤ 5 → Fits (spot_of a b dth dth2 d freq)
unfolding spot_of
spot_fits a b dth dth2 d freq h = record { del = single_mul _ _; hp = single_add _ _; ht = single_add _ _; fv = single_mul _ _; af = single_add _ _; layer = h }

given_fits : (row : ℕ → Ray) (d freq : Float) (i : ℕ) (p : Pair) (r : Ray) → ((k : ℕ) → Fits (row k)) → given_of row d freq i p ≡ Some r → Fits r
given_fits row d freq i Nothing r h e = let z : ◌≡◌ {A = ℕ} 0 1 = cc in absurd (omega arith)
given_fits row d freq i (Row k) r h e = let q : row k ≡ r = cc in subst Fits q (h k)
given_fits row d freq i (Spot dth dth2) r h e =
    let q : spot_of (row i) (row (i + 1)) dth dth2 d freq ≡ r = cc in subst Fits q (spot_fits (row i) (row (i + 1)) dth dth2 d freq (h i).layer)

put_slots : (m : HopModes) (i : ℕ) (r : Ray) (hp : Float) → Fits r → Single hp → Slots m → Slots (put_of m i r hp)
put_slots m i r hp f h was = record {
  each = λ n. record {
    del = set_all Single m.delmod i r.del nan f.del (λ k. (was.each k).del) n;
    hp = set_all Single m.hpmod i hp nan h (λ k. (was.each k).hp) n;
    ht = set_all Single m.htmod i r.ht nan f.ht (λ k. (was.each k).ht) n;
    fv = set_all Single m.fvmod i r.fv nan f.fv (λ k. (was.each k).fv) n;
    af = set_all Single m.afmod i r.af nan f.af (λ k. (was.each k).af) n;
    layer = set_all (λ (l : ℕ). l ≤ 5) m.itmod i r.layer 0 f.layer (λ k. (was.each k).layer) n;
  };
}

empty_slots : Slots empty_of
empty_slots =
    let zeros : (n : ℕ) → Single (get_or (replicate 6 (f32 0)) n nan) = same_all Single 6 (f32 0) nan (single_bits 0) single_nan in
    record {
      each = λ n. record {
        del = zeros n;
        hp = same_all Single 6 (neg (f32 0x3f80_0000)) nan (single_neg (f32 0x3f80_0000) (single_bits 0x3f80_0000)) single_nan n;
        ht = zeros n;
        fv = zeros n;
        af = zeros n;
        layer = same_all (λ (l : ℕ). l ≤ 5) 6 5 0 (omega arith) (omega arith) n;
      };
    }

module _ (t : Rows) (d amind freq : Float) (rows : (i : ℕ) → Fits (t.row i)) where
  abbrev Slots-so : Next Search Searched → Type 0
  Slots-so = Kept (λ (s : Search). Slots s.m) (λ (a : Searched). Slots a.m)

  ray_fits : (s : Search) (r : Ray) → ray_of t d freq s.at ≡ Some r → Fits r
  ray_fits s r e = given_fits t.row d freq s.at (pair_at t d s.at) r rows e

  turn_slots : (s : Search) → Slots s.m → Slots-so (turn_of t d amind freq s)
  turn_slots s h = turn_ways t d amind freq s Slots-so (record {
    ends = λ _. h;
    passes = λ w e. h;
    sixth = λ r w e p _. let f = ray_fits s r e in put_slots s.m s.rays r r.hp f f.hp h;
    accepts = λ r w e p _. let f = ray_fits s r e in put_slots s.m s.rays r r.hp f f.hp h;
    lowers = λ r w e p. let f = ray_fits s r e in put_slots s.m s.rays r (neg (abs_of r.hp)) f (single_neg (abs_of r.hp) (single_abs r.hp f.hp)) h;
  })

  run_slots : Slots (run_of t d amind freq).m
  unfolding run_of
  run_slots = run_keeps (turn_of t d amind freq) none_of (λ (s : Search). Slots s.m) (λ (a : Searched). Slots a.m) turn_slots empty_slots turns start empty_slots

far_slots : (far : Bool) (found : Searched) → Slots found.m → Slots (cond far none_of found).m
far_slots true found h = empty_slots
far_slots false found h = h

-- an accepted search over such a reflectrix
pub found_fits : (m : HopModes) (rfx : Reflectrix) (ghop amind freq : Float) → broken (limits_of ghop amind freq) ≡ 0 → Fitting rfx → Slots (fdist_of m rfx ghop amind freq).m
unfolding fdist_by search_by
found_fits m rfx ghop amind freq ok h =
    let rows : (i : ℕ) → Fits ((rows_of rfx).row i) =
    λ i. record { del = h.dels.each i; hp = h.hps.each i; ht = h.hts.each i; fv = h.fvs.each i; af = h.afs.each i; layer = omega (arith, h.modes i) } in
    rw ok (far_slots (le rfx.dmaxkm (ghop ⊗ RZ)) (run_of (rows_of rfx) (ghop ⊗ RZ) amind freq) (run_slots (rows_of rfx) (ghop ⊗ RZ) amind freq rows))
