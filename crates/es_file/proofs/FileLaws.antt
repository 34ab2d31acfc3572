-- For the functions of `es_file`, and what its number can be. Assumes nothing.
use mathlib.Core.Path.{◌≡◌, refl, sym, ◌∙◌}
use mathlib.Core.Bool.{Bool, true, false, cond, ◌&&◌}
use mathlib.Core.List.{List, [], ◌∷◌, ◌++◌}
use Prim.Native.Nat.{ℕ, zero, suc, ◌+◌, ◌*◌, ◌<◌}
use native.Mathlib.Omega.{arith}
use lib.Dec.{eqb, leb}
use lib.ListN.{length, get_or}
use lib.Ieee.{Float, nan, le}
use borrow.Author.Tests.{le-leb}
use Rattle.arith.specs.Floats.{f32}
use Rattle.arith.specs.Numbers.{0·0}
use Rattle.std.specs.Prelude.{Result, Ok, ⊤}
use Rattle.limits.specs.declared.Refusal.{Refusal}
use Rattle.limits.specs.declared.Refusal.TheVariants.{Job}
use Rattle.limits.specs.Limits.{broken, outcome_of, freq_within, amind_within, es_within}
use Rattle.limits.proofs.ChainLaws.{held}
use Rattle.limits.proofs.LimitsLaws.{numbered}
use Rattle.words.proofs.ListLaws.{get_d_tab}
use Rattle.esmod.proofs.Accepted.{accepted, accepted_is, point_is}
use Rattle.esmod.specs.declared.EsModes.{EsModes}
use Rattle.esmod.specs.Esmod.{middle_of, point_of, no_hops, hops_of, limits_of, answer_of, esmod_of}
use Rattle.esmod.specs.Esmod as esmod
use Rattle.job.specs.Parts.{point_numbers, number_at, numbers_at}
use Rattle.es_file.specs.File.{es_bytes, of_file, km_of, fs_of, hs_of, chosen_of, governing_fs, governing_hs, modes_of, number_of, point_tests, points_tests}

-- no test has the number 0
numbered_append : (xs ys : List (ℕ × Bool)) → numbered xs ≡ true → numbered ys ≡ true → numbered (xs ++ ys) ≡ true
numbered_append [] ys a b = b
numbered_append ((n, holds) ∷ xs) ys a b = go (leb 1 n) (numbered_append xs ys) a
  where
    go : (q : Bool) → (numbered xs ≡ true → numbered ys ≡ true → numbered (xs ++ ys) ≡ true) → (q && numbered xs) ≡ true → (q && numbered (xs ++ ys)) ≡ true
    go true f e = f e b
    go false f e = e

numbered_point : (file : List ℕ) (i : ℕ) → numbered (point_tests file i) ≡ true
numbered_point file i =
    rw (le-leb 1 (16 + i + 1) (omega arith), le-leb 1 (1 + 3 * i + 1) (omega arith), le-leb 1 (1 + 3 * i + 1 + 1) (omega arith), le-leb 1 (1 + 3 * i + 2 + 1) (omega arith))

pub numbered_points : (file : List ℕ) (n : ℕ) → numbered (points_tests file n) ≡ true
unfolding points_tests
numbered_points file zero = refl
numbered_points file (suc n) = numbered_append (points_tests file n) (point_tests file n) (numbered_points file n) (numbered_point file n)

-- ---- the number is one of 0, 1, 5, 6, 14

answer_is : (n : ℕ) (m : EsModes) → m.refusal ≡ 0 → (answer_of n m).refusal ≡ n
unfolding answer_of
answer_is zero m e = e
answer_is (suc n) m e = refl

no_number : (fs hs gcd gcdkm amind freq fsdead : Float) → (esmod.modes_of fs hs gcd gcdkm amind freq fsdead).refusal ≡ 0
unfolding esmod.modes_of hops_of
no_number fs hs gcd gcdkm amind freq fsdead = go (le freq fsdead) (le fs 0·0)
  where
    go : (q p : Bool) → (cond q (no_hops 0) (cond p (no_hops 0) (hops_of hs gcd gcdkm amind))).refusal ≡ 0
    go true p = refl
    go false true = refl
    go false false = refl

-- esmod's number
esmod_number : (km : ℕ) (fs : List (List Float)) (hs : List Float) (gcd gcdkm amind freq fsdead : Float) → (esmod_of km fs hs gcd gcdkm amind freq fsdead).refusal ≡ broken (limits_of km fs hs gcd gcdkm amind freq fsdead)
unfolding esmod_of
esmod_number km fs hs gcd gcdkm amind freq fsdead =
    let k = point_of fs km in
    answer_is (broken (limits_of km fs hs gcd gcdkm amind freq fsdead)) (esmod.modes_of (middle_of fs k) (get_or hs k nan) gcd gcdkm amind freq fsdead) (no_number (middle_of fs k) (get_or hs k nan) gcd gcdkm amind freq fsdead)

-- the number of a file as long as its layout
pub checked : (file : List ℕ) {a : Result ⊤ Refusal} {x : ⊤} {n : ℕ} → a ≡ outcome_of (eqb (length file) es_bytes) Job → a ≡ Ok x
    → n ≡ broken (limits_of (km_of file) (fs_of file) (hs_of file) (number_at file (of_file "gcd")) (number_at file (of_file "gcdkm")) (number_at file (of_file "amind")) (number_at file (of_file "freq")) (number_at file (of_file "fsdead")))
    → n ≡ number_of file
unfolding modes_of
checked file e k b = rw (held (eqb (length file) es_bytes) Job e k, esmod_number) b

-- where it is 0, esmod works with what is shown of the point that governs
module _ (file : List ℕ) where
  middle_is : (k : ℕ) → k < 5 → middle_of (fs_of file) k ≡ number_at file (of_file "fs" + point_numbers * k + 1)
  middle_is k h = rw (get_d_tab 5 (λ point. numbers_at file (of_file "fs" + point_numbers * point) point_numbers) k [] h, get_d_tab 3 (λ i. number_at file (of_file "fs" + point_numbers * k + i)) 1 nan (omega arith))

  height_is : (k : ℕ) → k < 5 → get_or (hs_of file) k nan ≡ number_at file (of_file "hs" + k)
  height_is k h = get_d_tab 5 (λ i. number_at file (of_file "hs" + i)) k nan h

  pub governs :
      (modes_of file).refusal ≡ 0
      → modes_of file ≡ esmod.modes_of (f32 (governing_fs file)) (f32 (governing_hs file)) (number_at file (of_file "gcd")) (number_at file (of_file "gcdkm")) (number_at file (of_file "amind")) (number_at file (of_file "freq")) (number_at file (of_file "fsdead"))
  unfolding modes_of esmod_of
  governs e =
      let z = sym (esmod_number (km_of file) (fs_of file) (hs_of file) (number_at file (of_file "gcd")) (number_at file (of_file "gcdkm")) (number_at file (of_file "amind")) (number_at file (of_file "freq")) (number_at file (of_file "fsdead"))) ∙ e in
      let a = accepted (km_of file) (fs_of file) (hs_of file) (number_at file (of_file "gcd")) (number_at file (of_file "gcdkm")) (number_at file (of_file "amind")) (number_at file (of_file "freq")) (number_at file (of_file "fsdead")) z in
      let k : chosen_of file ≡ point_of (fs_of file) (km_of file) = point_is a refl in
      let h : point_of (fs_of file) (km_of file) < 5 = omega (arith, a.counted, a.few) in
      sym (accepted_is _ z) ∙ rw (k, middle_is (point_of (fs_of file) (km_of file)) h, height_is (point_of (fs_of file) (km_of file)) h)

module _ (P : ℕ → Type 0) (none : P 0) (length-other : P 1) (freq-out : P 5) (amind-out : P 6) (es-out : P 14) where
  limit_is : (a b c : Bool) → P (broken ((5, a) ∷ (6, b) ∷ (14, c) ∷ []))
  unfolding broken
  limit_is true true true = none
  limit_is true true false = es-out
  limit_is true false c = amind-out
  limit_is false b c = freq-out

  esmod_is : (km : ℕ) (fs : List (List Float)) (hs : List Float) (gcd gcdkm amind freq fsdead : Float) → P (esmod_of km fs hs gcd gcdkm amind freq fsdead).refusal
  unfolding limits_of
  esmod_is km fs hs gcd gcdkm amind freq fsdead = rw (esmod_number km fs hs gcd gcdkm amind freq fsdead) (limit_is (freq_within freq) (amind_within amind) (es_within km fs hs gcd gcdkm fsdead))

  pub number_is : (file : List ℕ) → P (number_of file)
  unfolding modes_of
  number_is file = go (eqb (length file) es_bytes) (esmod_is _ _ _ _ _ _ _ _)
    where
      go : (q : Bool) → P (modes_of file).refusal → P (cond q (modes_of file).refusal 1)
      go true m = m
      go false m = length-other
