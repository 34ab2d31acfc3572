-- A loop as a definition: a step gives the next state or the answer. `run` takes so many steps at most, `steps` exactly so many, and `count` counts the states that a run passes through.
-- Where a step goes from state to state and a test stops it, `until` is that loop's turn, and `iterate` takes so many steps with no test.
use Rattle.std.specs.Prelude.{Bool, true, false, ℕ, zero, suc, ◌+◌}

pub data Next (S R : Type 0) : Type 0 where
  more : S → Next S R
  done : R → Next S R

-- what comes after a step: the answer, or what k makes of the next state
abbrev pub onward : {S R : Type 0} → (S → R) → Next S R → R
onward k (more s) = k s
onward k (done r) = r

-- the same, where the answer ends it: the next state's part, and nothing after the answer
abbrev pub rest : {S R : Type 0} → (S → ℕ) → Next S R → ℕ
rest k (more s) = k s
rest k (done r) = 0

abbrev pub then : {S R : Type 0} → (S → Next S R) → Next S R → Next S R
then k (more s) = k s
then k (done r) = done r

module _ {S R : Type 0} (f : S → Next S R) where
  -- the answer after n steps at most, or d where n steps give none
  unfoldable pub run : R → ℕ → S → R
  run d zero s = d
  run d (suc n) s = onward (run d n) (f s)

  -- where n steps lead
  unfoldable pub steps : ℕ → S → Next S R
  steps zero s = more s
  steps (suc n) s = then (steps n) (f s)

  -- the sum of c over the states that a run of n steps at most starts a step from: with 1 for each, the number of its turns
  unfoldable pub count : (S → ℕ) → ℕ → S → ℕ
  count c zero s = 0
  count c (suc n) s = c s + rest (count c n) (f s)

-- g, n times
unfoldable pub iterate : {S : Type 0} → ℕ → (S → S) → S → S
iterate zero g s = s
iterate (suc n) g s = iterate n g (g s)

-- the step g as a turn: the answer is the state that passes the test
abbrev pub stop_by : {S : Type 0} → Bool → S → S → Next S S
stop_by true s t = done s
stop_by false s t = more t

unfoldable pub until : {S : Type 0} → (S → Bool) → (S → S) → S → Next S S
until stop g s = stop_by (stop s) s (g s)
