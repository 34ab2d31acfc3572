use Rattle.std.proofs.Common.{rules, ◌≡◌, refl, sym, ℕ, ◌+◌, ◌-◌, ◌<◌, ◌≤◌, List, [], ◌∷◌, arith, ap, ◌∙◌}
use Rattle.std.specs.Prelude.{Result, Ok, Err, ⊤, Some, None, Option, MatchOption}
use Rattle.std.specs.Iterator.{Yields}
use Rattle.std.specs.List.{FoldsTo}
use Rattle.std.specs.declared.ops.Range.{Range}
use Rattle.std.proofs.iter.Yields.{nat_range_steps}
use Rattle.std.proofs.lemmas.Result.{err_from_is_err_and}
use Rattle.limits.specs.Limits.{broken}
use Rattle.es_file.specs.File.{found_by, point_tests, points_tests}
use Rattle.es_file.proofs.FoundLaws.{point_found, point_holds, no_points}
use Rattle.es_file.proofs.in_points.Goals as goal

-- points in which nothing is found, one after the other
module _ (file : List ℕ) {F : Type 0} (turn : F → ℕ → F → Type 0) (f : F) (holds : (i : ℕ) (g : F) → turn f i g → (g ≡ f) × (0 ≡ broken (point_tests file i))) where
  passed : (is : List ℕ) (s t : Range ℕ) (g : F) → Yields nat_range_steps s is t → FoldsTo turn f is g → s.start ≤ s.end → broken (points_tests file s.start) ≡ 0 → (t.end ≡ s.end) × (t.start ≤ t.end) × (g ≡ f) × (broken (points_tests file t.start) ≡ 0)
  passed [] s t g y h l z = (ap (λ r. r.end) (sym y), rw y at l, sym h, rw (ap (λ r. r.start) y) at z)
  passed (i ∷ is) s t g (u, (e, (m, a, b)), y) (k, h, hs) l z =
      let (same, here) = holds i k h in
      let next : broken (points_tests file u.start) ≡ 0 = rw (b, ← a) (point_holds file i (rw (← a) at z) here) in
      let (last, order, g_is, fine) = passed is u t g y (rw same at hs) (omega arith) next in
      (last ∙ e, order, g_is, fine)

-- and then there is none left, or one in which something is found
ended : (file : List ℕ) (n m : ℕ) (o : Option ℕ) (r : Result ⊤ ℕ) {P : ℕ → Type 0} → broken (points_tests file m) ≡ 0 → m ≤ n → MatchOption o (n - m ≡ 0) (λ i. (0 < n - m) × (i ≡ m)) → MatchOption o (r ≡ Ok tt) P → ((i : ℕ) → P i → (e : ℕ) × (r ≡ Err e) × (e + 1 ≡ broken (point_tests file i))) → found_by r ≡ broken (points_tests file n)
ended file n m None r z l a b found = let e : n ≡ m = omega arith in rw (b, e) (sym z)
ended file n m (Some i) r z l (a, e) b found =
    let (w, is, h) = found i b in
    rw is (point_found file i n n w (omega arith) refl (rw (← e) at z) h)

pub returns : goal.returns
returns c =
    let (is, o, g, (s, y, l), t, m) = c.try_for_each.ensures.ran in
    let file = c.args.file.now in
    let (end, order, g_is, fine) = passed file _ _ (λ i g h. search rules) is _ s g y t (omega arith) (no_points file) in
    rw (← c.min.ensures) (ended file c.min.result s.start o c.try_for_each.result fine (omega (arith, order, end)) (search rules) m (λ i k.
    let (v, _, e, _, broke, (_, and)) = k in
    let (w, is, from) = err_from_is_err_and c.try_for_each.result and in
    let here : found_by v ≡ broken (point_tests file i) = search rules in
    (w, is, rw from (rw broke at here))))
