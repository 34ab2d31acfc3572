-- The exit statuses: 0 done; 1 to 10, 14 the limit that is broken; 64 wrong use; 66 the input cannot be read; 73 FILE cannot be opened; 74 not all could be written.
use Rattle.std.specs.Prelude.{ℕ, zero, suc, Bool, ◌||◌, leb, eqb}

abbrev pub is_status : ℕ → Bool
is_status n = leb n 10 || eqb n 14 || eqb n 64 || eqb n 66 || eqb n 73 || eqb n 74

-- what a command on a job, or on the file of `es`, ends with, by the number of the limit that is broken, or 0: that number, or that the output could not be opened or written
abbrev pub ends_as : ℕ → ℕ → Bool
ends_as zero r = eqb r 0 || eqb r 73 || eqb r 74
ends_as (suc n) r = eqb r (suc n) || eqb r 74
