-- For `jfhz`: 1000 times a frequency within 2 to 30, cut to a whole number, is at most 30000.
use Rattle.std.proofs.Common.{◌≡◌, ◌+◌, ◌-◌, ◌*◌, ◌/◌, ◌^◌, ◌<◌, ◌≤◌, Bool, true, false, T, pos, sym, subst, le_trans, arith, lt→ltb}
use native.Mathlib.Nat.{min-le_left, div-le_of_le-mul}
use lib.Ieee.{Float, nan, inf, fin, up, down, binary32, of_bits, mul, lt, le, to_unsigned}
use lib.Ieee.Fits.{down_pos}
use lib.Ieee.Positive.{positive, le→cross, between, mul_mono}
use Rattle.arith.specs.Floats.{f32, ◌⊗◌}
use Rattle.limits.specs.Limits.{within, freq_within}
use Rattle.limits.proofs.LimitsLaws.{both}

pub record Cut (x : Float) : Type 0 where
  pub above : T (lt (fin true 1 (pos 0)) x)
  pub under : T (lt x (fin false 1 (pos 64)))
  pub small : to_unsigned 64 x ≤ 30000

abbrev least : Float
least = f32 0x4000_0000

abbrev greatest : Float
greatest = f32 0x41f0_0000

abbrev thousand : Float
thousand = f32 0x447a_0000

-- 30000
abbrev most : Float
most = fin false 1875 (pos 4)

cut : (x : Float) → T (positive x) → T (le x most) → Cut x
unfolding lt to_unsigned
cut nan p h = absurd p
cut (inf s) p h = absurd p
cut (fin true m e) p h = absurd p
cut (fin false m e) p h =
    let k : m * up e * 1 ≤ 1875 * 2 ^ 4 * down e = le→cross (fin false m e) most p tt h in
    let d : 0 < down e = down_pos e in
    record {
      above = lt→ltb 0 (1 * up (pos 0) * down e + m * up e * down (pos 0)) (omega arith);
      under = lt→ltb (m * up e * down (pos 64)) (1 * up (pos 64) * down e) (omega arith);
      small = le_trans (min-le_left (m * up e / down e) (2 ^ 64 - 1)) (div-le_of_le-mul (down e) (omega arith));
    }

cut_between : (freq : Float) → T (le least freq) → T (le freq greatest) → Cut (thousand ⊗ freq)
unfolding of_bits mul le
cut_between freq a b =
    let p : T (positive freq) = between least freq greatest tt tt a b in
    let lo : T (le (thousand ⊗ least) (thousand ⊗ freq)) = mul_mono binary32 thousand thousand least freq tt tt tt p tt a in
    let hi : T (le (thousand ⊗ freq) most) = mul_mono binary32 thousand thousand freq greatest tt tt p tt tt b in
    cut (thousand ⊗ freq) (between (thousand ⊗ least) (thousand ⊗ freq) most tt tt lo hi) hi

held : (b : Bool) → b ≡ true → T b
held b e = subst T (sym e) tt

pub cut_of : (freq : Float) → freq_within freq ≡ true → Cut (thousand ⊗ freq)
unfolding within
cut_of freq h =
    let b = both (le least freq) (le freq greatest) h in
    cut_between freq (held _ b.0) (held _ b.1)
