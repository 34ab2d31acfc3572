use Rattle.std.proofs.Common.{rules, ◌≡◌, refl, ℕ, zero, suc, ◌<◌, ◌≤◌, ◌+◌, List, arith, ap, ◌∙◌, cond}
use Rattle.std.specs.Prelude.{Float}
use Rattle.std.specs.Float.Ieee.{lt}
use Rattle.std.specs.List.{fold, range_with_len}
use Rattle.std.proofs.lemmas.Iterator.{YieldsList-from_range}
use Rattle.std.proofs.lemmas.Iterator.Consumers.{fold_from_yields_List}
use Rattle.arith.specs.Floats.{◌⊖◌}
use Rattle.arith.specs.Numbers.{0·0}
use Rattle.esmod.specs.Esmod.{middle_of, point_of}
use Rattle.esmod.proofs.Accepted.{point_counted}
use Rattle.esmod.proofs.EsJob.point.Goals as goal
use Rattle.esmod.proofs.EsJob.point.Goals.{After-fold}

-- one more number at the end of a fold
one_more : (h : ℕ → ℕ → ℕ) (x a n j : ℕ) → a + n ≡ j → fold h x (range_with_len a (suc n)) ≡ h (fold h x (range_with_len a n)) j
one_more h x a zero j e = ap (h x) (omega arith)
one_more h x a (suc n) j e = one_more h (h x a) (a + 1) n j (omega arith)

module _ (fs : List (List Float)) where
  abbrev turn : ℕ → ℕ → ℕ
  turn k is = cond (lt 0·0 (middle_of fs k ⊖ middle_of fs is)) is k

  turns : (n : ℕ) → fold turn 0 (range_with_len 0 n) ≡ point_of fs n
  unfolding point_of
  turns zero = refl
  turns (suc n) = one_more turn 0 0 n n (omega arith) ∙ rw (turns n) refl

  below : (n : ℕ) → n ≤ 5 → point_of fs n < 5
  unfolding point_of
  below zero h = omega arith
  below (suc n) h = omega (arith, point_counted fs n)

value : (c : After-fold) → c.fold.result ≡ point_of c.args.self.now.fs c.min.result
value c =
    let fs = c.args.self.now.fs in
    fold_from_yields_List _ (turn fs) 0 c.fold.result c.fold.ensures.ran (YieldsList-from_range 0 c.min.result c.min.result refl (omega arith)) (λ a x b q k. search rules)
    ∙ turns fs c.min.result

pub returns-clause-value : goal.returns-clause-value
returns-clause-value c = rw (← c.min.ensures) (value (goal.at.returns-clause-value c).After-fold)

pub returns-clause-upper_bound : goal.returns-clause-upper_bound
returns-clause-upper_bound c = rw (value (goal.at.returns-clause-upper_bound c).After-fold) (below c.args.self.now.fs c.min.result (omega (arith, c.min.ensures)))
