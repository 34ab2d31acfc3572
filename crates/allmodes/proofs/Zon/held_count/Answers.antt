use Rattle.std.proofs.Common.{rules, ◌≡◌, refl, ap, ◌∙◌, ℕ, zero, suc, ◌-◌, List, length}
use Rattle.std.specs.Prelude.{Float}
use Rattle.std.specs.List.{filter, range_with_len}
use Rattle.std.proofs.lemmas.Iterator.{YieldsList-from_range}
use Rattle.std.proofs.lemmas.Iterator.Consumers.{YieldsList-at, YieldsList-from_filter, count_from_yields_List}
use native.Mathlib.Numerals.{add-one}
use Rattle.allmodes.specs.AllModes.{holds, held}
use Rattle.allmodes.proofs.Zon.held_count.Goals as goal

filtered : (hp : List Float) (i n : ℕ) → filter (holds hp) (range_with_len i n) ≡ held hp i n
unfolding held
filtered hp i zero = refl
filtered hp i (suc n) = rw (add-one i, filtered hp (suc i) n) refl

pub returns : goal.returns
returns c =
    let hp = c.args.self.now.hp in
    let m = c.args.from in
    let n = c.args.to - c.args.from in
    count_from_yields_List c.filter.result c.count.result c.count.ensures.ran (YieldsList-from_filter _ (holds hp) (YieldsList-at c.filter.ensures.source (YieldsList-from_range m c.args.to n refl refl)) c.filter.ensures.closure (λ x b q k. search rules))
    ∙ ap length (filtered hp m n)
