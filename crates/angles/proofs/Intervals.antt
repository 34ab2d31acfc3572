-- An order between sums that rise, at every place of a range: tested at the ends of its intervals alone. Assumes nothing.
use Rattle.std.proofs.Common.{◌≡◌, ℕ, zero, suc, ◌+◌, ◌<◌, ◌≤◌, Bool, true, ◌&&◌, T, leb, List, [], ◌∷◌, sym, subst, le_trans, lt_of_lt_of_le, add-le-add, lt_irrefl, lt_of_not-le, add-one, arith, leb→le}
use native.Mathlib.Decide.{dec_le}
use lib.Ieee.Fits.{and_l, and_r}

abbrev pub Rising : (ℕ → ℕ) → Type 0
Rising f = (a c : ℕ) → a ≤ c → f a ≤ f c

abbrev pub Sinking : (ℕ → ℕ) → Type 0
Sinking f = (a c : ℕ) → a ≤ c → f c ≤ f a

-- from u to the last of the ends, at each interval: h at its upper end and g at its lower end are at most f at its lower end
unfoldable pub apart : (f g h : ℕ → ℕ) → ℕ → List ℕ → Bool
apart f g h u [] = true
apart f g h u (w ∷ us) = leb (h w + g u) (f u) && apart f g h w us

unfoldable pub last : ℕ → List ℕ → ℕ
last u [] = u
last u (w ∷ us) = last w us

-- so it is, from each place to the next
pub apart_at : (f g h : ℕ → ℕ) → Rising f → Sinking g → Rising h → (u : ℕ) (us : List ℕ) (a : ℕ) → T (apart f g h u us) → u ≤ a → a < last u us → h (a + 1) + g a ≤ f a
unfolding apart last
apart_at f g h F G H u [] a t l k = absurd (lt_irrefl a (lt_of_lt_of_le k l))
apart_at f g h F G H u (w ∷ us) a t l k = go (dec_le w a) (λ (d : w ≤ a). apart_at f g h F G H w us a (and_r (leb (h w + g u) (f u)) (apart f g h w us) t) d k)
  where
    go : Dec (w ≤ a) → (w ≤ a → h (a + 1) + g a ≤ f a) → h (a + 1) + g a ≤ f a
    go (yes d) later = later d
    go (no n) later =
        le_trans (add-le-add (H (a + 1) w (subst (λ (x : ℕ). x ≤ w) (sym (add-one a)) (lt_of_not-le n))) (G u a l))
        (le_trans (leb→le (h w + g u) (f u) (and_l (leb (h w + g u) (f u)) (apart f g h w us) t)) (F u a l))

-- ---- a test at each of n places, from u on
unfoldable pub every : (ℕ → Bool) → ℕ → ℕ → Bool
every p u zero = true
every p u (suc n) = p u && every p (u + 1) n

every_at : (p : ℕ → Bool) (u n a : ℕ) → T (every p u n) → u ≤ a → a < u + n → T (p a)
unfolding every
every_at p u zero a t h k = absurd (none u a h k)
  where
    none : (u a : ℕ) → u ≤ a → a < u + 0 → ⊥
    none u a h k = omega arith
every_at p u (suc n) a t h k = go (dec_le (u + 1) a) (λ (d : u + 1 ≤ a). every_at p (u + 1) n a (and_r (p u) (every p (u + 1) n) t) d (onward u n a k))
  where
    onward : (u n a : ℕ) → a < u + suc n → a < u + 1 + n
    onward u n a k = omega arith

    here : (u a : ℕ) → u ≤ a → (u + 1 ≤ a → ⊥) → u ≡ a
    here u a h f = omega arith

    go : Dec (u + 1 ≤ a) → (u + 1 ≤ a → T (p a)) → T (p a)
    go (yes d) later = later d
    go (no f) later = subst (λ (z : ℕ). T (p z)) (here u a h f) (and_l (p u) (every p (u + 1) n) t)

-- of an order
pub every_le : (f g : ℕ → ℕ) (u n a : ℕ) → T (every (λ (x : ℕ). leb (f x) (g x)) u n) → u ≤ a → a < u + n → f a ≤ g a
every_le f g u n a t h k = leb→le (f a) (g a) (every_at (λ (x : ℕ). leb (f x) (g x)) u n a t h k)
