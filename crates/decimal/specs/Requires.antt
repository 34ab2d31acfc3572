-- What private functions ask of each other: nothing that a reader must believe.
use Rattle.std.specs.Prelude.{ℕ, ◌<◌, ◌≤◌, ◌≡◌, ◌≢◌, List, ◌++◌, length, take, drop, get_or}
use Rattle.decimal.specs.Filled.{filled_text}

-- a text that is not at its end, and begins with no field
pub record Plain (t : List ℕ) : Type 0 where
  pub some : 0 < length t
  pub first : 4 ≤ length t → get_or t 0 0 ≢ 64

-- its first n bytes stand for themselves
pub record RunOf (t : List ℕ) (n : ℕ) : Type 0 where
  pub some : 0 < n
  pub within : n ≤ length t
  pub text : (v : List ℕ) → filled_text v t ≡ take n t ++ filled_text v (drop n t)
