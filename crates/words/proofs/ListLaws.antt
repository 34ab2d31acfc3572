-- Laws of `tab` and `put_at`, over any element type: a list of the values of a function; parts put one after the other.
use mathlib.Core.Path.{◌≡◌, refl, sym, ap, ◌∙◌}
use mathlib.Core.List.{List, [], ◌∷◌, ◌++◌, append-nil}
use Prim.Native.Nat.{ℕ, zero, suc, ◌+◌, ◌<◌, ◌≤◌}
use native.Mathlib.Nat.{add-zero, le_of_suc-le-suc}
use native.Mathlib.Omega.{arith}
use lib.ListN.{length, set, get_or, take, drop, drop_of_length-le, take-append-drop}
use lib.Seq.{length-sets, sets-eq, set_out}
use Rattle.words.specs.Lists.{tab, put_at}

module _ {A : Type 0} where
  pub length_tab : (n : ℕ) (f : ℕ → A) → length (tab n f) ≡ n
  unfolding tab
  length_tab zero f = refl
  length_tab (suc n) f = ap suc (length_tab n (λ k. f (suc k)))

  pub get_d_tab : (n : ℕ) (f : ℕ → A) (i : ℕ) (d : A) → i < n → get_or (tab n f) i d ≡ f i
  unfolding tab
  get_d_tab zero f i d h = absurd (omega arith)
  get_d_tab (suc n) f zero d h = refl
  get_d_tab (suc n) f (suc i) d h = get_d_tab n (λ k. f (suc k)) i d (le_of_suc-le-suc h)

  -- a list that has f i at each i
  pub tab_of : (n : ℕ) (f : ℕ → A) (l : List A) → length l ≡ n → ((i : ℕ) → i < n → get_or l i (f i) ≡ f i) → l ≡ tab n f
  unfolding tab
  tab_of zero f [] e h = refl
  tab_of zero f (x ∷ l) e h = absurd (omega (arith, e))
  tab_of (suc n) f [] e h = absurd (omega (arith, e))
  tab_of (suc n) f (x ∷ l) e h = rw (h 0 (omega arith), tab_of n (λ k. f (suc k)) l (omega (arith, e)) (λ i k. h (suc i) (omega (arith, k))))

  pub length_put : (d : List A) (at : ℕ) (s : List A) → length (put_at d at s) ≡ length d
  unfolding put_at
  length_put = length-sets

  -- two parts, one after the other, are the part of both
  pub put_put : (d : List A) (at : ℕ) (s t : List A) → put_at (put_at d at s) (at + length s) t ≡ put_at d at (s ++ t)
  unfolding put_at
  put_put d at [] t = rw add-zero
  put_put d at (a ∷ s) t = let e : at + suc (length s) ≡ suc at + length s = omega arith in rw e (put_put (set d at a) (suc at) s t)

  -- a part that has room
  pub put_inside : (d : List A) (at : ℕ) (s : List A) → at + length s ≤ length d → put_at d at s ≡ take at d ++ s ++ drop (at + length s) d
  unfolding put_at
  put_inside d at s h = sets-eq s d at h

  -- a part that is all
  pub put_whole : (d s : List A) → length s ≡ length d → put_at d 0 s ≡ s
  put_whole d s e =
      let none : drop (0 + length s) d ≡ [] = drop_of_length-le d {i = 0 + length s} (omega arith) in
      put_inside d 0 s (omega arith) ∙ rw none (append-nil s)

  -- past the end nothing is written
  pub put_past : (d : List A) (at : ℕ) (s : List A) → length d ≤ at → put_at d at s ≡ d
  unfolding put_at
  put_past d at [] h = refl
  put_past d at (a ∷ s) h = rw (set_out d at a h) (put_past d (suc at) s (omega (arith, h)))

  -- a part that is cut short
  pub put_cut : (d : List A) (at n : ℕ) (s : List A) → length d ≤ at + length (take n s) → put_at d at s ≡ put_at d at (take n s)
  put_cut d at n s h =
      ap (put_at d at) (sym (take-append-drop n s)) ∙ sym (put_put d at (take n s) (drop n s)) ∙ put_past (put_at d at (take n s)) (at + length (take n s)) (drop n s) (omega (arith, h, length_put d at (take n s)))
