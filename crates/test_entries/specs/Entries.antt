-- How the test host's memory is read.
use Rattle.std.specs.Prelude.{List, [], ◌∷◌, get_or, Float, ℕ, ◌+◌}
use Rattle.std.specs.Float.{nan}
use Rattle.sigdis.specs.declared.LayerMuf.{LayerMuf}
use Rattle.sigdis.specs.declared.MufHour.{MufHour}

-- the deciles of the four layers: sigl of each, then sigu of each
abbrev pub layer_of : List Float → ℕ → LayerMuf
layer_of deciles k = record { sigl = get_or deciles k nan; sigu = get_or deciles (k + 4) nan }

abbrev pub hour_of : List Float → MufHour
hour_of deciles = record { layers = layer_of deciles 0 ∷ layer_of deciles 1 ∷ layer_of deciles 2 ∷ layer_of deciles 3 ∷ [] }
