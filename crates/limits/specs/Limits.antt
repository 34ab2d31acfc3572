-- Document 01, "The bytes of a job", and the orders of document 02: the numbers of the refusals, and the ranges from 3 on, each by its sentence and a test that computes. "Ends are included."
use Rattle.std.specs.Prelude.{ℕ, zero, suc, ◌+◌, Bool, true, false, ◌&&◌, List, [], ◌∷◌, leb, get_or, Result, Ok, Err, MatchResult, ⊤, ◌⊎◌, ◌≡◌, ◌<◌, ℤ, pos, negsuc, Float}
use Rattle.std.specs.Int.Signed.{le_z}
use Rattle.std.specs.Float.{nan}
use Rattle.std.specs.Float.Ieee.{neg, le}
use Rattle.limits.specs.declared.NoRefusal.{NoRefusal}
use Rattle.limits.specs.declared.Refusal.{Refusal}
use Rattle.limits.specs.declared.Refusal.TheVariants.{Job, Answer, K, Nang, Freq, Amind, Ghop, Fi, Table, Ifob, Slots, Count, Layer, Es}
use Rattle.arith.specs.Numbers.{0·0, 0·001, 0·1, 2·0, 3·2, 4·0, 30·0, 80·0, 90·0, 100·0, 200·0, 2000·0, 10000·0, 20100·0, 1000000·0}

-- from lo to hi; "NaN never is within", and −0 lies within a range that starts at 0
unfoldable pub within : Float → Float → Float → Bool
within lo hi x = le lo x && le x hi

-- the number of the first broken limit of a list of numbers and tests, 0 where none is broken
unfoldable pub broken : List (ℕ × Bool) → ℕ
broken [] = 0
broken ((n, true) ∷ ls) = broken ls
broken ((n, false) ∷ ls) = n

-- 1. and 2.: the job, or the answer, has another length than its layout
abbrev pub refusal_job : ℕ
refusal_job = 1

abbrev pub refusal_answer : ℕ
refusal_answer = 2

-- 3. "k, a point counted from 0, is above 4."
abbrev pub refusal_k : ℕ
refusal_k = 3

abbrev pub k_within : ℕ → Bool
k_within k = leb k 4

-- 4. "nang is above 40."
abbrev pub refusal_nang : ℕ
refusal_nang = 4

abbrev pub nang_within : ℕ → Bool
nang_within nang = leb nang 40

-- 5. "freq is not within 2 to 30 (NaN never is within, here and below)."
abbrev pub refusal_freq : ℕ
refusal_freq = 5

abbrev pub freq_within : Float → Bool
freq_within = within 2·0 30·0

-- 6. "amind is not within 0 to 90."
abbrev pub refusal_amind : ℕ
refusal_amind = 6

abbrev pub amind_within : Float → Bool
amind_within = within 0·0 90·0

-- 7. "ghop is not within 0 to 4."
abbrev pub refusal_ghop : ℕ
refusal_ghop = 7

abbrev pub ghop_within : Float → Bool
ghop_within = within 0·0 4·0

-- 8. "At point k, fi's second is not within 0 to 100 or its third not within 0.1 to 100."
abbrev pub refusal_fi : ℕ
refusal_fi = 8

abbrev pub fi_within : Float → Float → Bool
fi_within second third = within 0·0 100·0 second && within 0·1 100·0 third

-- 9. "An fvert is not within 0 to 100, an hprim 0 to 10000, an htrue 0 to 2000 or an afac −1000000 to 1000000."
abbrev pub refusal_table : ℕ
refusal_table = 9

abbrev pub fvert_within : Float → Bool
fvert_within = within 0·0 100·0

abbrev pub hprim_within : Float → Bool
hprim_within = within 0·0 10000·0

abbrev pub htrue_within : Float → Bool
htrue_within = within 0·0 2000·0

abbrev pub afac_within : Float → Bool
afac_within = within (neg 1000000·0) 1000000·0

-- 10. "An ifob entry is not within 0 to 99999."
abbrev pub refusal_ifob : ℕ
refusal_ifob = 10

abbrev pub ifob_within : ℤ → Bool
ifob_within x = le_z (pos 0) x && le_z x (pos 99999)

-- the first n entries; a missing one counts as −1 and so is outside
unfoldable pub entries_within : List ℤ → ℕ → Bool
entries_within ifob zero = true
entries_within ifob (suc i) = entries_within ifob i && ifob_within (get_or ifob i (negsuc 0))

-- 11. "`accumulate` has ist 0 or lst above 7."
abbrev pub refusal_slots : ℕ
refusal_slots = 11

abbrev pub slots_within : ℕ → ℕ → Bool
slots_within ist lst = leb 1 ist && leb lst 7

-- 12. "`accumulate` would end with a count above 20, counting what was there before."
abbrev pub refusal_count : ℕ
refusal_count = 12

abbrev pub count_within : ℕ → ℕ → Bool
count_within before added = leb (before + added) 20

-- 13. "`prbmuf` has a layer outside 1 to 4."
abbrev pub refusal_layer : ℕ
refusal_layer = 13

abbrev pub layer_within : ℕ → Bool
layer_within layer = leb 1 layer && leb layer 4

-- Order 1. 14: "a point count outside 1 to 5, or a number outside these ranges (of the points, only those counted)"
abbrev pub refusal_es : ℕ
refusal_es = 14

abbrev pub km_within : ℕ → Bool
km_within km = leb 1 km && leb km 5

-- "hs is 80 to 200, gcd 0.001 to 3.2, gcdkm 0 to 20100, each fs and fsdead 0 to 100."
abbrev pub hs_within : Float → Bool
hs_within = within 80·0 200·0

abbrev pub gcd_within : Float → Bool
gcd_within = within 0·001 3·2

abbrev pub gcdkm_within : Float → Bool
gcdkm_within = within 0·0 20100·0

abbrev pub fs_within : Float → Bool
fs_within = within 0·0 100·0

-- a point by its three fs and its hs; what is missing counts as NaN
abbrev pub point_within : List Float → Float → Bool
point_within fs hs = hs_within hs && (fs_within (get_or fs 0 nan) && (fs_within (get_or fs 1 nan) && fs_within (get_or fs 2 nan)))

-- the first n points
unfoldable pub points_within : List (List Float) → List Float → ℕ → Bool
points_within fs hs zero = true
points_within fs hs (suc i) = points_within fs hs i && point_within (get_or fs i []) (get_or hs i nan)

unfoldable pub es_within : ℕ → List (List Float) → List Float → Float → Float → Float → Bool
es_within km fs hs gcd gcdkm fsdead = km_within km && (points_within fs hs km && (gcd_within gcd && (gcdkm_within gcdkm && fs_within fsdead)))

-- ---- the refusals

abbrev pub number_of : Refusal → ℕ
number_of Job = refusal_job
number_of Answer = refusal_answer
number_of K = refusal_k
number_of Nang = refusal_nang
number_of Freq = refusal_freq
number_of Amind = refusal_amind
number_of Ghop = refusal_ghop
number_of Fi = refusal_fi
number_of Table = refusal_table
number_of Ifob = refusal_ifob
number_of Slots = refusal_slots
number_of Count = refusal_count
number_of Layer = refusal_layer
number_of Es = refusal_es

-- a number decoded: the refusal that has it, or the number itself where none has
abbrev pub Decodes : ℕ → Result Refusal NoRefusal → Type 0
Decodes n r = MatchResult r (λ refusal. number_of refusal ≡ n) (λ e. (e.0 ≡ n) × ((n ≡ 0) ⊎ (14 < n)))

-- 0 where nothing is refused, else the number
abbrev pub code_of : {A : Type 0} → Result A Refusal → ℕ
code_of (Ok x) = 0
code_of (Err refusal) = number_of refusal

-- one test, with what is said where it fails
abbrev pub outcome_of : {E : Type 0} → Bool → E → Result ⊤ E
outcome_of true e = Ok tt
outcome_of false e = Err e
