-- Where a test that holds at k + 1 holds at k too, there is one place at which it holds before and fails: `least`. Whoever finds such a place, by halving or by a guess, has found
-- it. Assumes nothing.
use Rattle.std.proofs.Common.{◌≡◌, ℕ, zero, suc, ◌+◌, ◌-◌, ◌*◌, ◌/◌, ◌<◌, ◌≤◌, Bool, true, false, cond, ◌⊎◌, sym, refl, ap, ◌∙◌, subst, inl, inr, ⊎_elim, true≢false, le_of_eq, add-zero, zero-mul, arith, le-leb, leb-true}
use native.Mathlib.Decide.{dec_le}
use borrow.Author.Tests.{lt-leb}
use Rattle.angles.specs.Least.{first, least}
use Rattle.angles.specs.Requires.{holds, Falls, Part, Steep, Agrees}

-- ---- what is to be found
pub record Found (p : ℕ → Bool) (top k : ℕ) : Type 0 where
  pub within : k ≤ top
  pub holds_before : (k ≡ 0) ⊎ (p (k - 1) ≡ true)
  pub fails_here : (k ≡ top) ⊎ (p k ≡ false)

first_found : (p : ℕ → Bool) (top n k : ℕ) → k + n ≡ top → (k ≡ 0) ⊎ (p (k - 1) ≡ true) → Found p top (first p n k)
unfolding first
first_found p top zero k e b = record { within = le_of_eq (sym (add-zero k) ∙ e); holds_before = b; fails_here = inl (sym (add-zero k) ∙ e) }
first_found p top (suc n) k e b = go (p k) refl (λ (q : p k ≡ true). first_found p top n (k + 1) (onward k n e) (inr (ap p (back k) ∙ q)))
  where
    onward : (k n : ℕ) → k + suc n ≡ top → k + 1 + n ≡ top
    onward k n e = omega arith

    back : (k : ℕ) → k + 1 - 1 ≡ k
    back k = omega arith

    here : (k n : ℕ) → k + suc n ≡ top → k ≤ top
    here k n e = omega arith

    go : (c : Bool) → p k ≡ c → (p k ≡ true → Found p top (first p n (k + 1))) → Found p top (cond c (first p n (k + 1)) k)
    go true q later = later q
    go false q later = record { within = here k n e; holds_before = b; fails_here = inr q }

pub least_found : (p : ℕ → Bool) (top : ℕ) → Found p top (least p top)
unfolding least
least_found p top = first_found p top top 0 (zero_add top) (inl refl)
  where
    zero_add : (n : ℕ) → 0 + n ≡ n
    zero_add n = omega arith

pub least_within : (p : ℕ → Bool) (top : ℕ) → least p top ≤ top
least_within p top = (least_found p top).within

-- ---- there is one such place
pub holds_below : (p : ℕ → Bool) (top : ℕ) → Falls p top → (d k : ℕ) → k + d < top → p (k + d) ≡ true → p k ≡ true
holds_below p top f zero k h e = ap p (sym (add-zero k)) ∙ e
holds_below p top f (suc d) k h e = holds_below p top f d k (less k d h) (f (k + d) (next k d h) (ap p (sym (moved k d)) ∙ e))
  where
    less : (k d : ℕ) → k + suc d < top → k + d < top
    less k d h = omega arith

    next : (k d : ℕ) → k + suc d < top → k + d + 1 < top
    next k d h = omega arith

    moved : (k d : ℕ) → k + suc d ≡ k + d + 1
    moved k d = omega arith

not_less : (p : ℕ → Bool) (top : ℕ) → Falls p top → (k j : ℕ) → Found p top k → Found p top j → k < j → ⊥
not_less p top m k j f g h =
    ⊎_elim
    (λ (e : j ≡ 0). none k j h e)
    (λ (e : p (j - 1) ≡ true). ⊎_elim
    (λ (q : k ≡ top). past k j h q g.within)
    (λ (q : p k ≡ false). true≢false (sym (holds_below p top m (j - 1 - k) k (fits k j h g.within) (ap p (back k j h) ∙ e)) ∙ q))
    f.fails_here)
    g.holds_before
  where
    none : (k j : ℕ) → k < j → j ≡ 0 → ⊥
    none k j h e = omega arith

    past : (k j : ℕ) → k < j → k ≡ top → j ≤ top → ⊥
    past k j h e l = omega arith

    back : (k j : ℕ) → k < j → k + (j - 1 - k) ≡ j - 1
    back k j h = omega arith

    fits : (k j : ℕ) → k < j → j ≤ top → k + (j - 1 - k) < top
    fits k j h l = omega arith

pub unique : (p : ℕ → Bool) (top : ℕ) → Falls p top → (k : ℕ) → Found p top k → k ≡ least p top
unique p top m k f = same k (least p top) (not_less p top m k (least p top) f (least_found p top)) (not_less p top m (least p top) k (least_found p top) f)
  where
    same : (k j : ℕ) → (k < j → ⊥) → (j < k → ⊥) → k ≡ j
    same k j f g = omega arith

-- ---- halving: the place lies from lo to hi
abbrev pub Between : (ℕ → Bool) → ℕ → ℕ → ℕ → Type 0
Between p top lo hi = (lo ≤ hi) × ((hi ≤ top) × (((lo ≡ 0) ⊎ (p (lo - 1) ≡ true)) × ((hi ≡ top) ⊎ (p hi ≡ false))))

pub between_above : (p : ℕ → Bool) (top lo hi : ℕ) → lo < hi → Between p top lo hi → p ((lo + hi) / 2) ≡ true → Between p top ((lo + hi) / 2 + 1) hi
between_above p top lo hi h k e = (le lo hi h, (k.1.0, (inr (ap p (back ((lo + hi) / 2)) ∙ e), k.1.1.1)))
  where
    le : (lo hi : ℕ) → lo < hi → (lo + hi) / 2 + 1 ≤ hi
    le lo hi h = omega arith

    back : (m : ℕ) → m + 1 - 1 ≡ m
    back m = omega arith

pub between_none : (p : ℕ → Bool) (top lo hi : ℕ) → Falls p top → hi ≤ lo → Between p top lo hi → lo ≡ least p top
between_none p top lo hi m h k =
    let e : hi ≡ lo = both lo hi h k.0 in
    unique p top m lo (record { within = subst (λ (z : ℕ). z ≤ top) e k.1.0; holds_before = k.1.1.0; fails_here = subst (λ (z : ℕ). (z ≡ top) ⊎ (p z ≡ false)) e k.1.1.1 })
  where
    both : (lo hi : ℕ) → hi ≤ lo → lo ≤ hi → hi ≡ lo
    both lo hi h k = omega arith

-- ---- a guess: the test compares two sides, and from each k to the next these part by a least amount
pub part_falls : (low high : ℕ → ℕ) (top : ℕ) → ((k : ℕ) → k + 1 < top → Part low high 0 k) → Falls (holds low high) top
part_falls low high top f k h e = le-leb (low k) (high k) (shift (low k) (low (k + 1)) (high k) (high (k + 1)) (f k h) (leb-true (low (k + 1)) (high (k + 1)) e))
  where
    shift : (l l' h h' : ℕ) → l + h' + 0 ≤ l' + h → l' ≤ h' → l ≤ h
    shift l l' h h' p k = omega arith

module _ (low high : ℕ → ℕ) (top : ℕ) (f : Falls (holds low high) top) (q j : ℕ) (j-top : j + 1 ≤ top) where
  -- it fails at j, so that it held before
  fails_at : (j ≡ 0) ⊎ Part low high q (j - 1) → low j ≤ high j + q → high j < low j → j + 0 ≡ least (holds low high) top
  fails_at p l h = unique (holds low high) top f (j + 0) (record { within = omega arith; holds_before = go (dec_le 1 j); fails_here = inr (ap (holds low high) (add-zero j) ∙ lt-leb (low j) (high j) h) })
    where
      none : (1 ≤ j → ⊥) → j + 0 ≡ 0
      none n = omega arith

      plus_0 : j + 0 - 1 ≡ j - 1
      plus_0 = omega arith

      back : 1 ≤ j → j - 1 + 1 ≡ j
      back j1 = omega arith

      zero_not : 1 ≤ j → j ≡ 0 → ⊥
      zero_not j1 e = omega arith

      shift : (a a' b b' : ℕ) → a + b' + q ≤ a' + b → a' ≤ b' + q → a ≤ b
      shift a a' b b' m n = omega arith

      held : 1 ≤ j → Part low high q (j - 1) → holds low high (j - 1) ≡ true
      held j1 p = le-leb (low (j - 1)) (high (j - 1)) (shift (low (j - 1)) (low j) (high (j - 1)) (high j) (subst (λ (z : ℕ). low (j - 1) + high z + q ≤ low z + high (j - 1)) (back j1) p) l)

      go : Dec (1 ≤ j) → (j + 0 ≡ 0) ⊎ (holds low high (j + 0 - 1) ≡ true)
      go (yes j1) = inr (ap (holds low high) plus_0 ∙ held j1 (⊎_elim (λ (e : j ≡ 0). absurd (zero_not j1 e)) (λ (m : Part low high q (j - 1)). m) p))
      go (no n) = inl (none n)

  -- it holds at j, and fails at the next
  holds_at : Part low high q j → low j ≤ high j → high j < low j + q → j + 1 ≡ least (holds low high) top
  holds_at p l h = unique (holds low high) top f (j + 1) (record { within = j-top; holds_before = inr (ap (holds low high) plus_1 ∙ le-leb (low j) (high j) l); fails_here = inr (lt-leb (low (j + 1)) (high (j + 1)) (shift (low j) (low (j + 1)) (high j) (high (j + 1)) p h)) })
    where
      plus_1 : j + 1 - 1 ≡ j
      plus_1 = omega arith

      shift : (a a' b b' : ℕ) → a + b' + q ≤ a' + b → b < a + q → b' < a'
      shift a a' b b' m n = omega arith

pub guessed : (low high : ℕ → ℕ) (top : ℕ) → Falls (holds low high) top → (q j e : ℕ) → e ≤ 1 → Steep low high top q j → Agrees (low j) (high j) q e → j + e ≡ least (holds low high) top
guessed low high top f q j e E s a = ⊎_elim (λ (z : q ≡ 0). absurd (neither (low j) (high j) e (subst (λ (w : ℕ). Agrees (low j) (high j) w e) z a))) (go (dec_le e 0)) s
  where
    neither : (l h e : ℕ) → Agrees l h 0 e → ⊥
    neither l h e a =
        let a0 : 0 * (1 - e) ≡ 0 = zero-mul (1 - e) in
        let a1 : 0 * e ≡ 0 = zero-mul e in
        omega arith

    zero_e : (e : ℕ) → e ≤ 0 → e ≡ 0
    zero_e e h = omega arith

    one_e : (e : ℕ) → e ≤ 1 → (e ≤ 0 → ⊥) → e ≡ 1
    one_e e h f = omega arith

    drop_0 : (a b s : ℕ) → Agrees a b s 0 → (a ≤ b + s) × (b < a)
    drop_0 a b s h = (omega arith, omega arith)

    drop_1 : (a b s : ℕ) → Agrees a b s 1 → (a ≤ b) × (b < a + s)
    drop_1 a b s h = (omega arith, omega arith)

    go : Dec (e ≤ 0) → (j + 1 ≤ top) × (((j ≡ 0) ⊎ Part low high q (j - 1)) × Part low high q j) → j + e ≡ least (holds low high) top
    go (yes k) s =
        let z = zero_e e k in
        let d = drop_0 (low j) (high j) q (subst (λ (w : ℕ). Agrees (low j) (high j) q w) z a) in
        ap (λ (w : ℕ). j + w) z ∙ fails_at low high top f q j s.0 s.1.0 d.0 d.1
    go (no n) s =
        let z = one_e e E n in
        let d = drop_1 (low j) (high j) q (subst (λ (w : ℕ). Agrees (low j) (high j) q w) z a) in
        ap (λ (w : ℕ). j + w) z ∙ holds_at low high top f q j s.0 s.1.1 d.0 d.1
