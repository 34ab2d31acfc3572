-- Order 1, "Two hops at most are tried": the two slots by the first number of hops. Assumes nothing.
use mathlib.Core.Path.{◌≡◌, refl}
use Prim.Native.Nat.{ℕ, suc, ◌≤◌}
use native.Mathlib.Omega.{arith}
use borrow.Author.Tests.{lt-leb}
use lib.Ieee.{Float, of_bits, of_int}
use Rattle.arith.specs.Numbers.{1·0, 2·0}
use Rattle.esmod.specs.Esmod.{empty_hop, hop_of, ihsrt_of, slot_of, no_hops, hops_of}

module _ (hs gcd amind : Float) where
  -- a hop beyond the second leaves its slot empty
  pub slot_beyond : (ihop : ℕ) → 3 ≤ ihop → slot_of hs gcd amind ihop ≡ empty_hop
  unfolding slot_of
  slot_beyond ihop h = simp (lt-leb ihop 2 h)

  pub slot_one : slot_of hs gcd amind 1 ≡ hop_of hs gcd amind 1·0
  unfolding slot_of of_int of_bits
  slot_one = refl

  pub slot_two : slot_of hs gcd amind 2 ≡ hop_of hs gcd amind 2·0
  unfolding slot_of of_int of_bits
  slot_two = refl

module _ (hs gcd gcdkm amind : Float) where
  pub hops_none : 3 ≤ ihsrt_of hs gcdkm → hops_of hs gcd gcdkm amind ≡ no_hops 0
  unfolding hops_of
  hops_none h = simp (slot_beyond hs gcd amind (ihsrt_of hs gcdkm) h, slot_beyond hs gcd amind (suc (ihsrt_of hs gcdkm)) (omega (arith, h)))

  pub hops_two : ihsrt_of hs gcdkm ≡ 2 → hops_of hs gcd gcdkm amind ≡ record { refusal = 0; slot4 = hop_of hs gcd amind 2·0; slot5 = empty_hop }
  unfolding hops_of
  hops_two e = simp (e, slot_two hs gcd amind, slot_beyond hs gcd amind 3 (omega arith))

  pub hops_one : ihsrt_of hs gcdkm ≡ 1 → hops_of hs gcd gcdkm amind ≡ record { refusal = 0; slot4 = hop_of hs gcd amind 1·0; slot5 = hop_of hs gcd amind 2·0 }
  unfolding hops_of
  hops_one e = simp (e, slot_one hs gcd amind, slot_two hs gcd amind)
