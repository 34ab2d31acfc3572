-- Demand 3 of the search, about what `fdist_of` answers, with the answer's equations on which a caller goes on. Assumes nothing.
use Prim.Native.Nat.{ℕ, zero, suc, ◌+◌, ◌≤◌, ◌<◌}
use mathlib.Core.Path.{◌≡◌, refl, sym, ap, ◌∙◌}
use mathlib.Core.Bool.{Bool, true, false, cond}
use native.Mathlib.Omega.{arith}
use lib.Ieee.{Float, lt, le}
use Rattle.arith.specs.Floats.{◌⊗◌, f32, RZ}
use Rattle.arith.proofs.Order.{float_not_le}
use Rattle.limits.specs.Limits.{broken}
use Rattle.findf.specs.declared.Reflectrix.{Reflectrix}
use Rattle.fdist.specs.declared.HopModes.{HopModes}
use Rattle.fdist.specs.declared.Searched.{Searched}
use Rattle.std.specs.Prelude.{Some}
use Rattle.fdist.specs.Fdist.{Rows, rows_of, Search, low, none_of, run_of, search_by, search_of, limits_of, refused_of, unless_broken, fdist_by, fdist_of}
use Rattle.fdist.specs.Demand.{ray_of, straddles, gives, reaches, jumped, before, slot_of, stands, tries_of, accepts_of, count_of}
use Rattle.fdist.proofs.SlotLaws.{Reached, empty_reached}
use Rattle.fdist.proofs.SearchLaws.{pairs_raised, rays_raised, run_counted, run_few, run_reached, run_unrefused}
use Rattle.fdist.proofs.StraddleLaws.{run_holds, straddle_gives}

-- of an answer: whether a limit refuses, and whether d is at or beyond the farthest hop
unless_all : (P : Searched → Type 0) (n : ℕ) (m : HopModes) (found : Searched) → ((k : ℕ) → P (refused_of m (suc k))) → P found → P (unless_broken n m found)
unless_all P zero m found p q = q
unless_all P (suc n) m found p q = p n

far_all : (P : Searched → Type 0) (far : Bool) (found : Searched) → P none_of → P found → P (cond far none_of found)
far_all P true found p q = p
far_all P false found p q = q

far_count : (v : Searched → ℕ) (far : Bool) (found : Searched) (n : ℕ) → v none_of ≡ 0 → v found ≡ n → v (cond far none_of found) ≡ cond far 0 n
far_count v true found n p q = p
far_count v false found n p q = q

unless_refusal : (n : ℕ) (m : HopModes) (found : Searched) → found.refusal ≡ 0 → (unless_broken n m found).refusal ≡ n
unless_refusal zero m found p = p
unless_refusal (suc n) m found p = refl

module _ (m : HopModes) (rfx : Reflectrix) (ghop amind freq : Float) where
  abbrev pub rows : Rows
  rows = rows_of rfx

  -- the asked length, and whether it is at or beyond the farthest hop
  abbrev pub d : Float
  d = ghop ⊗ RZ

  abbrev pub far : Bool
  far = le rfx.dmaxkm d

  abbrev pub answer : Searched
  answer = fdist_of m rfx ghop amind freq

  -- the number of the first limit broken, 0 where none is; a refusal hands m back, and an accepted search hands back nothing of it
  pub refusal_is : answer.refusal ≡ broken (limits_of ghop amind freq)
  unfolding fdist_by broken search_by
  refusal_is =
      unless_refusal (broken (limits_of ghop amind freq)) m (search_of rfx d amind freq)
      (far_all (λ (a : Searched). a.refusal ≡ 0) far (run_of rows d amind freq) refl (run_unrefused rows d amind freq))

  pub refused_is : (n : ℕ) → broken (limits_of ghop amind freq) ≡ suc n → answer ≡ refused_of m (suc n)
  unfolding fdist_by broken
  refused_is n e = rw e

  pub accepted_is : broken (limits_of ghop amind freq) ≡ 0 → answer ≡ search_of rfx d amind freq
  unfolding fdist_by broken
  accepted_is e = rw e

  few : (answer.pairs ≤ 44) × (answer.rays ≤ 6)
  unfolding fdist_by broken search_by
  few =
      unless_all (λ (a : Searched). (a.pairs ≤ 44) × (a.rays ≤ 6)) (broken (limits_of ghop amind freq)) m (search_of rfx d amind freq) (λ k. (omega arith, omega arith))
      (far_all (λ (a : Searched). (a.pairs ≤ 44) × (a.rays ≤ 6)) far (run_of rows d amind freq) (omega arith, omega arith) (run_few rows d amind freq))

  -- "each search tries at most 44 row pairs", and accepts at most six rays
  pub pairs_few : answer.pairs ≤ 44
  pairs_few = few.0

  pub rays_few : answer.rays ≤ 6
  rays_few = few.1

  module _ (ok : broken (limits_of ghop amind freq) ≡ 0) where
    -- "exactly the counts of the written definition's steps": the turns that compare two hop lengths, and those that accept a ray
    pub pairs_counted : answer.pairs ≡ count_of rfx ghop amind freq (tries_of rows)
    unfolding fdist_by broken search_by
    pairs_counted =
        rw ok
        (far_count (λ (a : Searched). a.pairs) far (run_of rows d amind freq) _ refl
        (run_counted rows d amind freq (tries_of rows) (λ (s : Search). s.pairs) (λ (a : Searched). a.pairs) refl (pairs_raised rows d amind freq)))

    pub rays_counted : answer.rays ≡ count_of rfx ghop amind freq (accepts_of rows d amind freq)
    unfolding fdist_by broken search_by
    rays_counted =
        rw ok
        (far_count (λ (a : Searched). a.rays) far (run_of rows d amind freq) _ refl
        (run_counted rows d amind freq (accepts_of rows d amind freq) (λ (s : Search). s.rays) (λ (a : Searched). a.rays) refl (rays_raised rows d amind freq)))

    -- "Every slot of positive height has an angle at or above the minimum."
    pub high_reaches : (n : ℕ) → lt (f32 0) (slot_of answer.m n).hp ≡ true → le amind (slot_of answer.m n).del ≡ true
    unfolding fdist_by broken search_by
    high_reaches = rw ok (far_all (λ (a : Searched). Reached amind a.m) far (run_of rows d amind freq) (empty_reached amind) (run_reached rows d amind freq)).slots

    -- "Hop lengths strictly on either side of d always give one, and demand 3 holds that too."
    pub straddling_gives : (i : ℕ) → straddles (rows.gd i) (rows.gd (i + 1)) d ≡ true → gives (ray_of rows d freq i) ≡ true
    straddling_gives i sides = rw (straddle_gives rows d freq i sides).1

    -- "Take any two neighbouring rows whose hop lengths lie strictly on either side of the asked one. If the asked one is below the farthest hop, all rows up to and including both have
    -- positive heights, their ray reaches the minimum angle, fewer than six rays came before and no "second row" hit jumped them, then their ray stands in the answer, in the slot next
    -- after those that came before." Floats have one NaN here, so the equation of the two rays takes all NaNs as equal.
    pub straddle_stands : (i : ℕ) → i < 44 → straddles (rows.gd i) (rows.gd (i + 1)) d ≡ true
        → lt d rfx.dmaxkm ≡ true
        → ((j : ℕ) → j ≤ i + 1 → lt (f32 0) (rows.row j).hp ≡ true)
        → reaches amind (ray_of rows d freq i) ≡ true
        → before rows d amind freq i < 6
        → jumped rows d i ≡ false
        → stands (ray_of rows d freq i) answer.m (before rows d amind freq i)
    unfolding fdist_by broken search_by
    straddle_stands i last sides below high reached room fresh =
        let g = straddle_gives rows d freq i sides in
        let tall : (j : ℕ) → j ≤ i → jumped rows d j ≡ false → low rows j ≡ false = λ j k _. float_not_le (f32 0) (rows.row (j + 1)).hp (high (j + 1) (omega arith)) in
        let holds = run_holds rows d amind freq i g.0 last tall fresh g.1 (rw g.1 at reached) room in
        rw (ok, float_not_le d rfx.dmaxkm below) (g.1 ∙ ap Some (sym holds))
