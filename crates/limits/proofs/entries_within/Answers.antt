use mathlib.Core.Path.{◌≡◌, refl, sym}
use mathlib.Core.Bool.{Bool, true, false, ◌&&◌, ◌||◌, not, and-false}
use Prim.Native.Nat.{ℕ}
use lib.Bits.{bit_or}
use lib.ListN.{get_or}
use lib.IntN.{ℤ, pos, negsuc}
use lib.Signed.{le_z, lt_z}
use mir.Syntax.{w32}
use mir.Val.{SFits, to_z, of_z}
use mir.Facts.{to_z-of_z}
use native.Mathlib.Nat.{le_antisymm}
use native.Mathlib.Numerals.{add-one}
use borrow.Author.Rules.{rules, sfits_of}
use Rattle.std.proofs.lemmas.List.{get_or_default}
use Rattle.limits.specs.Limits.{ifob_within, entries_within}
use Rattle.limits.proofs.Signs.{or_sign, not_above}
use Rattle.limits.proofs.entries_within.Invariants.{kept}
use Rattle.limits.proofs.entries_within.Goals as goal

regroup : (s t p q : Bool) → ((s && not t) && (p && not q)) ≡ ((s && p) && not (t || q))
regroup true true p q = sym (and-false p)
regroup true false p q = refl
regroup false t p q = refl

one_more : (bits : ℕ) (above : Bool) (x : ℤ) → SFits w32 x → (kept (to_z w32 bits) above && ifob_within x) ≡ kept (to_z w32 (bit_or bits (of_z w32 x))) (above || lt_z (pos 99999) (to_z w32 (of_z w32 x)))
one_more bits above x h =
    rw (or_sign w32, to_z-of_z h, not_above) (regroup (le_z (pos 0) (to_z w32 bits)) above (le_z (pos 0) x) (lt_z (pos 99999) x))

pub loop-entry-init : goal.loop-entry-init
unfolding entries_within
loop-entry-init c = refl

pub loop-entry-preserved : goal.loop-entry-preserved
unfolding entries_within
loop-entry-preserved c =
    let l = c.loop-entry in
    let xs = c.args.ifob.now in
    rw (add-one, get_or_default xs l.entry-index (negsuc 0) (pos 0) (rw c.told-ifob c.loop-entry-test.true), l.invariant) (one_more l.bits-bits l.above (get_or xs l.entry-index (pos 0)) (search (rules, sfits_of)))

pub returns : goal.returns
returns c = rw (le_antisymm c.loop-entry-test.false c.loop-entry.auto.entry-index-end) (sym c.loop-entry.invariant)
