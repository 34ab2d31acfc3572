-- Laws of what is read: words past the end, the cases of a slot, the rays counted one slot more. Assumes nothing.
use mathlib.Core.Path.{◌≡◌, refl, sym, ap, ◌∙◌}
use mathlib.Core.Bool.{Bool, true, false, cond}
use mathlib.Core.List.{List}
use Prim.Native.Nat.{ℕ, zero, suc, ◌+◌, ◌*◌, ◌/◌, ◌<◌, ◌≤◌}
use native.Mathlib.Omega.{arith}
use native.Mathlib.Numerals.{add-one}
use lib.ListN.{length, get_or, get_or-eq_default}
use lib.Ieee.{le}
use lib.Dec.{eqb}
use denote.Enum.Bare.{sameb}
use Rattle.std.specs.List.{count_by, fold, range_with_len}
use Rattle.std.proofs.Common.{Result, Ok, Err, Option, Some, None, inl, inr}
use Rattle.std.specs.Option.{option_eq}
use Rattle.std.specs.Result.{result_ok}
use Rattle.findf.specs.Kinds.{Decodes}
use Rattle.findf.specs.contracts.RowKind.{the_type as kinds}
use Rattle.findf.specs.declared.NoRowKind.{NoRowKind}
use Rattle.findf.specs.declared.RowKind.{RowKind}
use Rattle.findf.specs.declared.RowKind.TheVariants.{Exact, Interp, Cusp, NextCusp}
use Rattle.view.specs.contracts.State.{the_type}
use borrow.Author.Tests.{le-leb, lt-leb, lt-ltb, le-ltb, eq-eqb, ne_eqb}
use Rattle.arith.specs.Floats.{f32}
use Rattle.job.specs.Layout.{word}
use Rattle.words.specs.Words.{word_at}
use Rattle.view.specs.declared.State.{State}
use Rattle.view.specs.declared.State.TheVariants.{Empty, Ray, TooLow}
use Rattle.view.specs.View.{of_job, of_answer, critical_of, slot_by, slot_of, is_empty, is_ray, ray_at, rays_before, row_kind_by, is_cusp, is_after_cusp}

-- a word past the end
pub word_past : (s : List ℕ) (i : ℕ) → length s / 4 < i → 0 ≡ word s i
unfolding word_at
word_past s i h =
    let past : (k : ℕ) → 0 ≡ get_or s (4 * i + k) 0 = λ k. sym (get_or-eq_default s 0 (omega arith)) in
    let first : 0 ≡ get_or s (4 * i) 0 = sym (get_or-eq_default s 0 (omega arith)) in
    rw (← first, ← past 1, ← past 2, ← past 3)

-- the critical frequency of a layer that there is, at a point that there is
pub critical_is : (job : List ℕ) (k l r : ℕ) → k ≡ word job 0 → k ≤ 4 → l ≤ 2 → r ≡ word job (of_job "fi" + 3 * k + l) → r ≡ critical_of job l
unfolding critical_of
critical_is job k l r e h j w = rw (← e, le-leb k 4 h, le-leb l 2 j) w

pub no_point : (job : List ℕ) (k l : ℕ) → k ≡ word job 0 → 4 < k → 0 ≡ critical_of job l
unfolding critical_of
no_point job k l e h = rw (← e, lt-leb k 4 h)

pub no_layer : (job : List ℕ) (k l : ℕ) → k ≡ word job 0 → k ≤ 4 → 2 < l → 0 ≡ critical_of job l
unfolding critical_of
no_layer job k l e h j = rw (← e, le-leb k 4 h, lt-leb l 2 j)

-- a slot by its layer and angle
module _ (job answer : List ℕ) (s : ℕ) where
  pub slot_past : 6 ≤ s → Empty ≡ slot_of job answer s
  unfolding slot_of
  slot_past h = rw (le-ltb s 6 h)

  module _ (h : s < 6) (layer : ℕ) (l : layer ≡ word answer (of_answer "itmod" + s)) where
    pub slot_empty : layer ≡ 5 → Empty ≡ slot_of job answer s
    unfolding slot_of slot_by
    slot_empty e = rw (lt-ltb s 6 h, ← l, eq-eqb layer 5 e)

    module _ (n : layer ≡ 5 → ⊥) (t : Bool) (a : t ≡ le (f32 (word job (of_job "amind"))) (f32 (word answer (of_answer "delmod" + s)))) where
      pub slot_ray : t ≡ true → Ray ≡ slot_of job answer s
      unfolding slot_of slot_by
      slot_ray e = rw (lt-ltb s 6 h, ← l, ne_eqb layer 5 n, ← a, e)

      pub slot_low : t ≡ false → TooLow ≡ slot_of job answer s
      unfolding slot_of slot_by
      slot_low e = rw (lt-ltb s 6 h, ← l, ne_eqb layer 5 n, ← a, e)

-- a slot compared with one of its states
pub is_ray_by : (v : State) → sameb the_type v Ray ≡ eqb (is_ray v) 1
is_ray_by Empty = refl
is_ray_by Ray = refl
is_ray_by TooLow = refl

pub is_empty_by : (v : State) → sameb the_type v Empty ≡ is_empty v
is_empty_by Empty = refl
is_empty_by Ray = refl
is_empty_by TooLow = refl

-- a row's kind compared with one of the kinds
pub is_cusp_by : (k : Option RowKind) → option_eq (sameb kinds) k (Some Cusp) ≡ is_cusp k
is_cusp_by None = refl
is_cusp_by (Some Exact) = refl
is_cusp_by (Some Interp) = refl
is_cusp_by (Some Cusp) = refl
is_cusp_by (Some NextCusp) = refl

pub is_after_cusp_by : (k : Option RowKind) → option_eq (sameb kinds) k (Some NextCusp) ≡ is_after_cusp k
is_after_cusp_by None = refl
is_after_cusp_by (Some Exact) = refl
is_after_cusp_by (Some Interp) = refl
is_after_cusp_by (Some Cusp) = refl
is_after_cusp_by (Some NextCusp) = refl

-- a row's kind by its number
pub kind_is : (n : ℕ) (r : Result RowKind NoRowKind) → Decodes n r → result_ok r ≡ row_kind_by n
unfolding row_kind_by
kind_is n (Ok Exact) e = rw (← e)
kind_is n (Ok Interp) e = rw (← e)
kind_is n (Ok Cusp) e = rw (← e)
kind_is n (Ok NextCusp) e = rw (← e)
kind_is n (Err e) (is, inl z) = rw z
kind_is n (Err e) (is, inr l) = rw (ne_eqb n 1 (λ p. omega (arith, p, l)), ne_eqb n 2 (λ p. omega (arith, p, l)), ne_eqb n 3 (λ p. omega (arith, p, l)), ne_eqb n 4 (λ p. omega (arith, p, l)))

-- rays counted: those from slot s on, behind those before it
ray_number : (v : State) → cond (eqb (is_ray v) 1) 1 0 ≡ is_ray v
ray_number Empty = refl
ray_number Ray = refl
ray_number TooLow = refl

rays_next : (job answer : List ℕ) (s : ℕ) → rays_before job answer s + cond (ray_at job answer s) 1 0 ≡ rays_before job answer (s + 1)
unfolding rays_before
rays_next job answer s = rw add-one (ap (λ (k : ℕ). rays_before job answer s + k) (ray_number (slot_of job answer s)))

rays_on : (job answer : List ℕ) (s n : ℕ) → fold (λ a i. a + cond (ray_at job answer i) 1 0) (rays_before job answer s) (range_with_len s n) ≡ rays_before job answer (s + n)
rays_on job answer s zero = let e : s ≡ s + 0 = omega arith in ap (rays_before job answer) e
rays_on job answer s (suc n) =
    let e : (s + 1) + n ≡ s + suc n = omega arith in
    ap (λ (k : ℕ). fold (λ a i. a + cond (ray_at job answer i) 1 0) k (range_with_len (s + 1) n)) (rays_next job answer s) ∙ rays_on job answer (s + 1) n ∙ ap (rays_before job answer) e

pub rays_counted : (job answer : List ℕ) (n : ℕ) → count_by (ray_at job answer) (range_with_len 0 n) ≡ rays_before job answer n
unfolding rays_before
rays_counted job answer n = let e : 0 + n ≡ n = omega arith in rays_on job answer 0 n ∙ ap (rays_before job answer) e
