-- Laws of texts added to a page one after the other. Assumes nothing.
use Rattle.std.proofs.Common.{◌≡◌, ℕ, zero, suc, ◌+◌, ◌-◌, ◌<◌, ◌≤◌, Bool, true, false, List, [], ◌∷◌, ◌++◌, length, get_or, set, take, drop, replicate, refl, sym, ap, ◌∙◌, append_assoc, append-nil, add-one, arith, length-append, length-take, min, leb-true, leb-false}
use lib.Dec.{leb}
use native.Mathlib.Nat.{sub-zero}
use borrow.Rule.Slice.PartMut.{put_mid}
use Rattle.std.proofs.Math.Seq.{drop-append_seam, take-append-add}
use Rattle.std.proofs.lemmas.Slice.{take-put_mid, drop-put_mid}
use lib.Seq.{drop-length, take-suc, take_all}
use Rattle.std.proofs.lemmas.List.{drop-drop, length-drop, take_more_set, drop-set-lt, drop_all, drop-append-le, take-append-drop, take-take}
use Rattle.words.specs.Lists.{put_at}
use Rattle.words.proofs.ListLaws.{put_inside, put_whole, put_cut}
use Rattle.decimal.specs.Page.{Written, blank, bytes_of, added, shortened, Used, used, more, Extends}

take_none : (n : ℕ) → take {A = ℕ} n [] ≡ []
take_none zero = refl
take_none (suc n) = refl

-- a text goes on where the one before it ended
take_after : (n : ℕ) (s t : List ℕ) → take n s ++ take (n - length s) t ≡ take n (s ++ t)
take_after n [] t = rw (take_none, sub-zero) refl
take_after zero (b ∷ s) t = let full : 0 - length (b ∷ s) ≡ 0 = omega arith in rw full refl
take_after (suc n) (b ∷ s) t =
    let less : suc n - length (b ∷ s) ≡ n - length s = omega arith in
    rw less (ap (λ (l : List ℕ). b ∷ l) (take_after n s t))

module _ (p : Written) where
  pub added_none : added p [] ≡ p
  unfolding added
  added_none = rw (take_none, append-nil) refl

  pub added_added : (s t : List ℕ) → added (added p s) t ≡ added p (s ++ t)
  unfolding added
  added_added s t = rw (length-drop, append_assoc, take_after, drop-drop, length-append) refl

-- for a chain of calls by hand
pub added_then : (p : Written) (s t : List ℕ) {q r : Written} → q ≡ added p s → r ≡ added q t → r ≡ added p (s ++ t)
added_then p s t a b = b ∙ rw a (added_added p s t)

pub added_as : (p : Written) {q : Written} {s t : List ℕ} → s ≡ t → q ≡ added p s → q ≡ added p t
added_as p e a = a ∙ ap (added p) e

-- one byte more of a text, and of a run of one byte
pub added_next : (p : Written) (s : List ℕ) (i : ℕ) → i < length s → added (added p (take i s)) (get_or s i 0 ∷ []) ≡ added p (take (i + 1) s)
added_next p s i h = rw (added_added, add-one, take-suc s i 0 h) refl

pub added_all : (p : Written) (s : List ℕ) (i : ℕ) → length s ≤ i → added p (take i s) ≡ added p s
added_all p s i h = rw (take_all i s h) refl

replicate_more : (n b : ℕ) → replicate n b ++ (b ∷ []) ≡ replicate (n + 1) b
replicate_more zero b = refl
replicate_more (suc n) b = ap (λ (l : List ℕ). b ∷ l) (replicate_more n b) ∙ rw (add-one, add-one) refl

pub added_again : (p : Written) (n b : ℕ) → added (added p (replicate n b)) (b ∷ []) ≡ added p (replicate (n + 1) b)
added_again p n b = rw (added_added, replicate_more) refl

-- what a chain of calls and a loop over a page need
pub ruleset pages = (added_none, added_added, added_next, added_all, added_again, append_assoc)

-- ---- what extends a page

cut_again : (n : ℕ) (s : List ℕ) → take n (take n s) ≡ take n s
cut_again n s = take_all n (take n s) (omega (arith, length-take n s))

module _ (u : Used) where
  pub more_more : (s t : List ℕ) → more (more u s) t ≡ more u (s ++ t)
  unfolding more
  more_more s t =
      let less : u.room - length s - length t ≡ u.room - length (s ++ t) = omega (arith, length-append s t) in
      rw (append_assoc, take_after, less) refl

  pub extends_self : more u (drop (length u.text) u.text) ≡ u
  unfolding more
  extends_self = rw (drop-length, take_none, append-nil, sub-zero) refl

  pub extends_more : (s : List ℕ) → more u (drop (length u.text) (more u s).text) ≡ more u s
  unfolding more
  extends_more s =
      let left : u.room - length (take u.room s) ≡ u.room - length s = omega (arith, length-take u.room s) in
      rw (drop-append_seam, cut_again, left) refl

pub used_added : (p : Written) (s : List ℕ) → used (added p s) ≡ more (used p) s
unfolding used added more
used_added p s = rw length-drop refl

-- that a chain of calls or a loop extends the page
pub ruleset extends = (extends_self, more_more, extends_more, used_added)

-- ---- a page cut back to no less than it was

-- what is cut is not the text before
cut_more : (u : Used) (m : List ℕ) (q : Written) (n : ℕ) → used q ≡ more u m → length u.text ≤ n → used (shortened q n) ≡ more u (take (n - length u.text) (take u.room m))
unfolding more used shortened
cut_more u m q n e h =
    let k = n - length u.text in
    let w = take k (take u.room m) in
    let text : q.text ≡ u.text ++ take u.room m = ap (λ (v : Used). v.text) e in
    let left : length q.rest ≡ u.room - length m = ap (λ (v : Used). v.room) e in
    let loan : q.loan ≡ u.loan = ap (λ (v : Used). v.loan) e in
    let long : length (take u.room m) ≡ min u.room (length m) = length-take u.room m in
    let kept : length w ≡ min k (length (take u.room m)) = length-take k (take u.room m) in
    let both : length (u.text ++ take u.room m) ≡ length u.text + length (take u.room m) = length-append u.text (take u.room m) in
    let place : n ≡ length u.text + k = omega arith in
    let cut : take n (u.text ++ take u.room m) ≡ u.text ++ w = ap (λ (j : ℕ). take j (u.text ++ take u.room m)) place ∙ take-append-add u.text (take u.room m) k in
    let fits : take u.room w ≡ w = take_all u.room w (omega (arith, long, kept)) in
    let behind : length (drop n (u.text ++ take u.room m) ++ q.rest) ≡ u.room - length w =
    length-append (drop n (u.text ++ take u.room m)) q.rest ∙ omega (arith, length-drop n (u.text ++ take u.room m), left, long, kept, both) in
    rw (text, fits, cut, behind, loan) refl

used_text : (p : Written) → (used p).text ≡ p.text
unfolding used
used_text p = refl

pub extends_shortened : (p q : Written) (n : ℕ) → Extends p q → length p.text ≤ n → Extends p (shortened q n)
extends_shortened p q n a h =
    let u = used p in
    let m = drop (length u.text) (used q).text in
    let k : length u.text ≤ n = rw (used_text p) h in
    rw (cut_more u m q n (sym a) k) (extends_more u (take (n - length u.text) (take u.room m)))

-- ---- by the lent bytes and how many of them are written

abbrev pub page_of : List ℕ → ℕ → ℕ → Written
page_of bytes end loan = record { text = take end bytes; rest = drop end bytes; loan = loan }

-- for `put`
pub put_one : (bytes : List ℕ) (end b loan : ℕ) → end < length bytes → page_of (set bytes end b) (end + 1) loan ≡ added (page_of bytes end loan) (b ∷ [])
unfolding added
put_one bytes end b loan h =
    let room : length (drop end bytes) ≡ suc (length bytes - end - 1) = length-drop end bytes ∙ omega (arith, h) in
    let one : take (suc (length bytes - end - 1)) (b ∷ []) ≡ b ∷ [] = ap (λ (l : List ℕ). b ∷ l) (take_none (length bytes - end - 1)) in
    rw (take_more_set bytes end b h, drop-set-lt (end + 1) bytes end b (omega arith), room, one, drop-drop) refl

-- for `text`: n bytes of it in the place of those from `end` on
pub put_text : (bytes s ys : List ℕ) (end n k loan : ℕ) → end ≤ length bytes → n ≡ min (length s) (length bytes - end) → k ≡ n → ys ≡ take n s → page_of (put_mid end k bytes ys) (end + n) loan ≡ added (page_of bytes end loan) s
unfolding added
put_text bytes s ys end n k loan h e q y =
    let long : length ys ≡ n = ap length y ∙ length-take n s ∙ omega (arith, e) in
    let text : take (end + n) (put_mid end k bytes ys) ≡ take end bytes ++ ys = take-put_mid end k bytes ys (end + n) (omega (arith, long)) h in
    let rest : drop (end + n) (put_mid end k bytes ys) ≡ drop (end + n) bytes = drop-put_mid end k bytes ys (end + n) (omega (arith, q)) h (long ∙ sym q) in
    rw (text, rest, y, length-drop, drop-drop) (by (leb (length s) (length bytes - end)) refl)
  where
    by : (b : Bool) → leb (length s) (length bytes - end) ≡ b → ◌≡◌ {A = Written} (record { text = take end bytes ++ take n s; rest = drop (end + n) bytes; loan = loan }) (record { text = take end bytes ++ take (length bytes - end) s; rest = drop (end + length s) bytes; loan = loan })
    by true f =
        let few = leb-true (length s) (length bytes - end) f in
        let m : n ≡ length s = omega (arith, e, few) in
        rw (m, take_all (length s) s (omega arith), take_all (length bytes - end) s few) refl
    by false f =
        let many = leb-false (length s) (length bytes - end) f in
        let m : n ≡ length bytes - end = omega (arith, e, many) in
        rw (m, drop_all (end + (length bytes - end)) bytes (omega (arith, h)), drop_all (end + length s) bytes (omega (arith, h, many))) refl

-- for `truncate`
pub cut_back : (bytes : List ℕ) (end n loan : ℕ) → end ≤ length bytes → page_of bytes (min end n) loan ≡ shortened (page_of bytes end loan) n
unfolding shortened
cut_back bytes end n loan h = by (leb n end) refl
  where
    long : length (take end bytes) ≡ end
    long = length-take end bytes ∙ omega (arith, h)

    few : n ≤ end → page_of bytes (min end n) loan ≡ record { text = take n (take end bytes); rest = drop n (take end bytes) ++ drop end bytes; loan = loan }
    few l =
        let m : min end n ≡ n = omega (arith, l) in
        rw (m, ← drop-append-le n (take end bytes) (drop end bytes) (rw long l), take-append-drop, take-take n end bytes l) refl

    all : end < n → page_of bytes (min end n) loan ≡ record { text = take n (take end bytes); rest = drop n (take end bytes) ++ drop end bytes; loan = loan }
    all l =
        let m : min end n ≡ end = omega (arith, l) in
        rw (m, take_all n (take end bytes) (omega (arith, long, l)), drop_all n (take end bytes) (omega (arith, long, l))) refl

    by : (b : Bool) → leb n end ≡ b → page_of bytes (min end n) loan ≡ record { text = take n (take end bytes); rest = drop n (take end bytes) ++ drop end bytes; loan = loan }
    by true e = few (leb-true n end e)
    by false e = all (leb-false n end e)

-- ---- the lent bytes when the page is given back

-- a text on new bytes: it stands in them from the first on, as far as it fits, and no other byte has changed
pub given_back : (bytes : List ℕ) (loan : ℕ) (s : List ℕ) → bytes_of (added (blank bytes loan) s) ≡ put_at bytes 0 s
unfolding added
given_back d loan s = by (leb (length s) (length d)) refl
  where
    fits : length s ≤ length d → take (length d) s ++ drop (length s) d ≡ put_at d 0 s
    fits h =
        let first : put_at d 0 s ≡ s ++ drop (0 + length s) d = put_inside d 0 s (omega (arith, h)) in
        let place : 0 + length s ≡ length s = omega arith in
        rw (take_all (length d) s h, first, place) refl

    cut : length d < length s → take (length d) s ++ drop (length s) d ≡ put_at d 0 s
    cut h =
        let long : length (take (length d) s) ≡ length d = length-take (length d) s ∙ omega (arith, h) in
        rw (drop_all (length s) d (omega (arith, h)), append-nil) (sym (put_whole d (take (length d) s) long) ∙ sym (put_cut d 0 (length d) s (omega (arith, long))))

    by : (b : Bool) → leb (length s) (length d) ≡ b → take (length d) s ++ drop (length s) d ≡ put_at d 0 s
    by true e = fits (leb-true (length s) (length d) e)
    by false e = cut (leb-false (length s) (length d) e)

-- whose bytes they are
module _ (p : Written) where
  pub loan_added : (s : List ℕ) → (added p s).loan ≡ p.loan
  unfolding added
  loan_added s = refl

  pub loan_shortened : (n : ℕ) → (shortened p n).loan ≡ p.loan
  unfolding shortened
  loan_shortened n = refl
