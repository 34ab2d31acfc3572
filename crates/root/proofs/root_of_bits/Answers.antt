use mathlib.Core.Path.{◌≡◌, refl, sym, ap, ◌∙◌}
use mathlib.Core.Bool.{false}
use Prim.Native.Nat.{ℕ, zero, suc, ◌+◌, ◌-◌, ◌*◌, ◌/◌, ◌%◌, ◌^◌, ◌≤◌, ◌<◌}
use native.Mathlib.Nat.{mul_assoc, mul-pos, lt_of_lt_of_le}
use native.Mathlib.Omega.{arith}
use lib.Dec.{lit<}
use lib.Pow.{pow-add, pow_pos}
use lib.Ieee.{binary32, units, of_bits}
use Rattle.root.specs.Root.{nearest_root, sqrt_of}
use Rattle.root.proofs.NearestRootLaws.{nearest_root_lem, root_range}
use Rattle.root.proofs.RootLaws.{Leading, four_pow, root_of_lem, sqrt_of_value}
use Rattle.root.proofs.root_of_bits.Goals as goal
use Rattle.root.proofs.root_of_bits.Goals.{After-take_apart-p}

joined : (s k j e w : ℕ) → w ≡ s * 2 ^ j → j + 2 * k ≡ e → w * 4 ^ k ≡ s * 2 ^ e
joined s k j e w h d =
    ap (λ (x : ℕ). x * 4 ^ k) h
    ∙ ap (λ (x : ℕ). s * 2 ^ j * x) (four_pow k)
    ∙ mul_assoc s (2 ^ j) (2 ^ (2 * k))
    ∙ ap (λ (x : ℕ). s * x) (sym (pow-add 2 j (2 * k)) ∙ ap (λ (x : ℕ). 2 ^ x) d)

-- a significand of 24 digits, shifted by 23 or 24
shifted : (s e p : ℕ) → 2 ^ 23 ≤ s → s < 2 ^ 24 → 126 ≤ e → e % 2 ≡ p → Leading (s * 2 ^ e) ((e - 23) / 2) (s * 16777216 % 18446744073709551616 / 2 ^ p)
shifted s e zero l h a q = record { exact = joined s ((e - 23) / 2) 24 e (s * 16777216 % 18446744073709551616 / 1) (omega arith) (omega arith); least = omega arith; most = omega arith }
shifted s e (suc zero) l h a q = record { exact = joined s ((e - 23) / 2) 23 e (s * 16777216 % 18446744073709551616 / 2) (omega arith) (omega arith); least = omega arith; most = omega arith }
shifted s e (suc (suc p)) l h a q = absurd (none e p q)
  where
    none : (e p : ℕ) → e % 2 ≡ suc (suc p) → ⊥
    none e p q = omega arith

-- after the significand is taken apart, w and k are the definition's
module _ (c : After-take_apart-p) where
  abbrev s : ℕ
  s = c.take_apart-p.result.s

  abbrev e : ℕ
  e = c.take_apart-p.result.e

  abbrev w : ℕ
  w = s * 16777216 % 18446744073709551616 / 2 ^ (e % 2)

  leading : Leading (s * 2 ^ e) ((e - 23) / 2) w
  leading = let a = c.take_apart-p.ensures in shifted s e (e % 2) a.leading a.digits a.above refl

  positive : 0 < w
  positive = omega (arith, leading.least)

  in_range : (2 ^ 23 ≤ nearest_root w) × (nearest_root w ≤ 2 ^ 24)
  in_range = root_range w (nearest_root w) leading.least leading.most (nearest_root_lem w positive leading.most)

  meaning : sqrt_of (of_bits binary32 c.args.b) ≡ units binary32 false (nearest_root w) ((e - 23) / 2)
  meaning =
      sqrt_of_value (of_bits binary32 c.args.b) (s * 2 ^ e) (mul-pos (lt_of_lt_of_le (lit< tt) c.take_apart-p.ensures.leading) (pow_pos e)) c.take_apart-p.ensures.value
      ∙ root_of_lem (s * 2 ^ e) ((e - 23) / 2) w leading

pub invariant_of-radicand : goal.invariant_of-radicand
invariant_of-radicand c =
    let p = (goal.at.invariant_of-radicand c).After-take_apart-p in
    record { above_zero = positive p; digits = (leading p).most }

pub put_together-requires-clause-fact_1 : goal.put_together-requires-clause-fact_1
put_together-requires-clause-fact_1 c = rw c.nearest_root.ensures (in_range (goal.at.put_together-requires-clause-fact_1 c).After-take_apart-p).0

pub put_together-requires-clause-fact_2 : goal.put_together-requires-clause-fact_2
put_together-requires-clause-fact_2 c = rw c.nearest_root.ensures (in_range (goal.at.put_together-requires-clause-fact_2 c).After-take_apart-p).1

pub put_together-requires-clause-fact_3 : goal.put_together-requires-clause-fact_3
put_together-requires-clause-fact_3 c = omega (arith, c.take_apart-p.ensures.below)

pub returns : goal.returns
returns c = rw (c.put_together.ensures, c.nearest_root.ensures) (sym (meaning (goal.at.returns c).After-take_apart-p))
