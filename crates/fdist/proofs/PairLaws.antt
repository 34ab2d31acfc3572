-- Laws of the rule: the row that a pair gives is one of its two (`pair_within`), and lengths strictly on either side of d give a ray (`rising_gives`, `falling_gives`). Assumes nothing.
use mathlib.Core.Path.{◌≡◌}
use Prim.Native.Nat.{ℕ, ◌+◌, ◌≤◌}
use mathlib.Core.Bool.{Bool, true, false, cond}
use native.Mathlib.Omega.{arith}
use lib.Ieee.{Float, lt, eq}
use Rattle.arith.specs.Floats.{◌⊖◌}
use Rattle.arith.proofs.Order.{float_trans, float_asym, float_ne}
use Rattle.fdist.specs.declared.pairs.Pair.{Pair}
use Rattle.fdist.specs.declared.pairs.Pair.TheVariants.{Nothing, Row, Spot}
use Rattle.fdist.specs.Requires.{Within}
use Rattle.fdist.specs.Pairs.{near, between_of, rising_of, equal_of, falling_of, pair_of, next_of}

either : (i : ℕ) (t : Bool) (a b : Pair) → Within i a → Within i b → Within i (cond t a b)
either i true a b p q = p
either i false a b p q = q

first : (i : ℕ) → Within i (Row i)
first i = (omega arith, omega arith)

second : (i : ℕ) → Within i (Row (i + 1))
second i = (omega arith, omega arith)

between_within : (i : ℕ) (g1 g2 d : Float) → Within i (between_of i g1 g2 d)
unfolding between_of
between_within i g1 g2 d = either i (near (g2 ⊖ g1)) _ _ (first i) tt

rising_within : (i : ℕ) (g1 g2 d : Float) → Within i (rising_of i g1 g2 d)
unfolding rising_of
rising_within i g1 g2 d =
    either i (lt g1 d) _ _ (either i (lt d g2) _ _ (between_within i g1 g2 d) (either i (eq d g2) _ _ (second i) tt)) (either i (eq g1 d) _ _ (first i) tt)

equal_within : (i : ℕ) (g d : Float) → Within i (equal_of i g d)
unfolding equal_of
equal_within i g d = either i (near (d ⊖ g)) _ _ tt (first i)

falling_within : (i : ℕ) (g1 g2 d : Float) → Within i (falling_of i g1 g2 d)
unfolding falling_of
falling_within i g1 g2 d =
    either i (lt g1 d) _ _ tt (either i (eq g1 d) _ _ (first i) (either i (lt d g2) _ _ tt (either i (eq d g2) _ _ (second i) (between_within i g1 g2 d))))

pub pair_within : (i : ℕ) (g1 g2 d : Float) → Within i (pair_of i g1 g2 d)
unfolding pair_of
pair_within i g1 g2 d =
    either i (lt g1 g2) _ _ (rising_within i g1 g2 d) (either i (eq g1 g2) _ _ (equal_within i g1 d) (falling_within i g1 g2 d))

-- the next pair is the one after, or the one after that
next_within : (i : ℕ) (p : Pair) → Within i p → (i + 1 ≤ next_of i p) × (next_of i p ≤ i + 2)
next_within i Nothing w = (omega arith, omega arith)
next_within i (Row k) w = (omega arith, omega arith)
next_within i (Spot x y) w = (omega arith, omega arith)

pub next_bounds : (i : ℕ) (g1 g2 d : Float) {p : Pair} {next : ℕ} → p ≡ pair_of i g1 g2 d → next ≡ next_of i p → (i + 1 ≤ next) × (next ≤ i + 2)
next_bounds i g1 g2 d {p} {next} e n = rw n (next_within i p (rw e (pair_within i g1 g2 d)))

-- lengths strictly on either side of d give a row or a spot
abbrev pub Gives : Pair → Type 0
Gives Nothing = ⊥
Gives (Row k) = Unit {0}
Gives (Spot x y) = Unit {0}

between_gives : (i : ℕ) (t : Bool) (x y : Float) → Gives (cond t (Row i) (Spot x y))
between_gives i true x y = tt
between_gives i false x y = tt

module _ (i : ℕ) (g1 g2 d : Float) where
  pub rising_gives : lt g1 d ≡ true → lt d g2 ≡ true → Gives (pair_of i g1 g2 d)
  unfolding pair_of rising_of between_of
  rising_gives p q = rw (float_trans g1 d g2 p q, p, q) (between_gives i (near (g2 ⊖ g1)) (d ⊖ g1) (g2 ⊖ g1))

  pub falling_gives : lt g2 d ≡ true → lt d g1 ≡ true → Gives (pair_of i g1 g2 d)
  unfolding pair_of falling_of between_of
  falling_gives p q =
      let r : lt g2 g1 ≡ true = float_trans g2 d g1 p q in
      rw (float_asym g2 g1 r, float_ne g2 g1 r, float_asym d g1 q, float_ne d g1 q, float_asym g2 d p, float_ne g2 d p) (between_gives i (near (g2 ⊖ g1)) (d ⊖ g1) (g2 ⊖ g1))
