use Prim.Native.Nat.{ℕ}
use mathlib.Core.Path.{sym, subst, ◌∙◌}
use Rattle.scale.specs.Scale.{Marked}
use Rattle.scale.proofs.across.Goals as goal

pub returns-then-beyond : goal.returns-then-beyond
returns-then-beyond c =
    let test = sym c.beyond.ensures ∙ c.if-beyond.true in
    subst (λ (top : ℕ). Marked 10 8 top c.up_to.result) (c.over.ensures.value ∙ rw (← c.min-far.ensures, ← c.min-asked.ensures, test)) c.up_to.ensures

pub returns : goal.returns
returns c =
    let test = sym c.beyond.ensures ∙ c.if-beyond.false in
    subst (λ (top : ℕ). Marked 10 8 top c.up_to-2.result) (c.over-2.ensures.value ∙ rw (c.max.ensures, ← c.min-far.ensures, ← c.min-asked.ensures, test)) c.up_to-2.ensures
