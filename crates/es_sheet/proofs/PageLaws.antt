-- What the page says of the slots of an accepted file is so. Assumes nothing.
use mathlib.Core.Path.{◌≡◌, refl, sym, ap, ◌∙◌}
use mathlib.Core.Bool.{Bool, true, false, cond}
use mathlib.Core.Logic.{◌⊎◌, inl, inr, ⊎_elim}
use mathlib.Core.List.{List}
use Prim.Native.Nat.{ℕ, zero, suc, ◌≤◌, ◌<◌}
use native.Mathlib.Omega.{arith}
use lib.Dec.{leb}
use lib.IntN.{pos}
use lib.Ieee.{Float, binary32, neg, lt, le, of_int, of_bits, round}
use borrow.Author.Tests.{leb-true, leb-false}
use Rattle.arith.specs.Floats.{f32, ◌⊗◌, ◌⊘◌, R2D, VOFL}
use Rattle.arith.specs.Numbers.{0·0}
use Rattle.arith.proofs.Order.{no}
use Rattle.job.specs.Parts.{number_at}
use Rattle.esmod.specs.declared.EsHop.{EsHop}
use Rattle.esmod.specs.Esmod.{empty_hop, thet_of, del_of, path_of, hop_of, no_hops, slot_of, hops_of}
use Rattle.esmod.specs.Esmod as esmod
use Rattle.esmod.proofs.EsmodLaws.{Slot}
use Rattle.es_file.specs.File.{of_file, governing_fs, governing_hs, modes_of}
use Rattle.es_file.proofs.FileLaws.{governs}
use Rattle.es_sheet.specs.Page.{is_empty}

-- `empty` stands for the empty values, and for nothing else
pub empty_shown : is_empty empty_hop ≡ true
unfolding lt neg of_bits
empty_shown = refl

some_hops : (hop : ℕ) (r : EsHop) → 1 ≤ hop → hop ≤ 2 → r.hn ≡ of_int binary32 (pos hop) → is_empty r ≡ false
unfolding lt of_int of_bits round
some_hops zero r h m e = absurd (omega arith)
some_hops (suc zero) r h m e = rw e
some_hops (suc (suc zero)) r h m e = rw e
some_hops (suc (suc (suc n))) r h m e = absurd (omega arith)

pub empty_alone : {hs amind : Float} {hop : ℕ} {r : EsHop} → Slot hs amind hop r → 1 ≤ hop → is_empty r ≡ true → r ≡ empty_hop
empty_alone {hs} {amind} {hop} {r} s h e = go (leb hop 2) refl
  where
    go : (t : Bool) → leb hop 2 ≡ t → r ≡ empty_hop
    go false t = s.beyond (leb-false hop 2 t)
    go true t = ⊎_elim (λ z. z) (λ z. no (sym (some_hops hop r h (leb-true hop 2 t) z.0) ∙ e)) s.used

-- why both slots are empty: the first two sentences
module _ (file : List ℕ) (e : (modes_of file).refusal ≡ 0) where
  pub cutoff : le (number_at file (of_file "freq")) (number_at file (of_file "fsdead")) ≡ true → modes_of file ≡ no_hops 0
  unfolding esmod.modes_of
  cutoff h = governs file e ∙ rw h

  module _ (above : le (number_at file (of_file "freq")) (number_at file (of_file "fsdead")) ≡ false) where
    pub no_fs : le (f32 (governing_fs file)) 0·0 ≡ true → modes_of file ≡ no_hops 0
    unfolding esmod.modes_of
    no_fs h = governs file e ∙ rw (above, h)

    -- the third: else the slots are the hops
    pub by_hops : le (f32 (governing_fs file)) 0·0 ≡ false → modes_of file ≡ hops_of (f32 (governing_hs file)) (number_at file (of_file "gcd")) (number_at file (of_file "gcdkm")) (number_at file (of_file "amind"))
    unfolding esmod.modes_of
    by_hops h = governs file e ∙ rw (above, h)

-- and each hop that leaves its slot empty is beyond the second, or below amind
pub hop_empty : (hs gcd amind : Float) (hop : ℕ) → 1 ≤ hop → slot_of hs gcd amind hop ≡ empty_hop → (2 < hop) ⊎ (lt (del_of hs (thet_of gcd (of_int binary32 (pos hop))) ⊗ R2D) amind ≡ true)
unfolding slot_of hop_of
hop_empty hs gcd amind hop h =
    let gp = of_int binary32 (pos hop) in
    let thet = thet_of gcd gp in
    let del = del_of hs thet in
    go (leb hop 2) refl (lt (del ⊗ R2D) amind) refl (del ⊗ R2D) (path_of hs gp thet del ⊘ VOFL)
  where
    go : (t : Bool) → leb hop 2 ≡ t → (u : Bool) → {v : Bool} → v ≡ u → (x z : Float) → cond t (cond u empty_hop (record { b = x; hn = of_int binary32 (pos hop); hp = hs; timed = z })) empty_hop ≡ empty_hop → (2 < hop) ⊎ (v ≡ true)
    go false t u v x z e = inl (leb-false hop 2 t)
    go true t true v x z e = inr v
    go true t false v x z e =
        let r : EsHop = record { b = x; hn = of_int binary32 (pos hop); hp = hs; timed = z } in
        no (sym (some_hops hop r h (leb-true hop 2 t) refl) ∙ ap is_empty e ∙ empty_shown)
