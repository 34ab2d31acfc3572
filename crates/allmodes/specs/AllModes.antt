-- modes.rs lines 209 to 345: the list of modes of one frequency, cleared and added to.
use Rattle.std.specs.Prelude.{ℕ, zero, suc, ◌+◌, ◌-◌, Bool, cond, length, get_or, set, replicate, ℤ, pos, Float}
use mathlib.Core.List.{List, [], ◌∷◌, foldl}
use Rattle.std.specs.Float.{nan}
use Rattle.std.specs.Float.Ieee.{neg, lt}
use Rattle.arith.specs.Numbers.{0·0, 1·0, 999·0, 99999·0}
use Rattle.limits.specs.Limits.{slots_within, count_within, refusal_slots, refusal_count}
use Rattle.allmodes.specs.declared.Zon.{Zon}
use Rattle.allmodes.specs.declared.AllModes.{AllModes}
use Rattle.allmodes.specs.declared.Accumulated.{Accumulated}

-- lines 302 to 310: the list is empty; in all 20 slots tloss is 99999, tllow and tlhgh are 999, hp is −1; the rest is as it was
abbrev pub reset_of : AllModes → AllModes
reset_of m =
    record {
      abps = m.abps;
      crel = m.crel;
      fldst = m.fldst;
      hn = m.hn;
      hp = replicate 20 (neg 1·0);
      prob = m.prob;
      rely = m.rely;
      rgain = m.rgain;
      sigpow = m.sigpow;
      sn = m.sn;
      spro = m.spro;
      tgain = m.tgain;
      timed = m.timed;
      tloss = replicate 20 99999·0;
      b = m.b;
      fslos = m.fslos;
      grlos = m.grlos;
      adv = m.adv;
      obf = m.obf;
      nmode = m.nmode;
      tllow = replicate 20 999·0;
      tlhgh = replicate 20 999·0;
      eff = m.eff;
      nrel = m.nrel;
      nmmod = 0;
    }

-- the column `to` with slot i of the column `from` at place n
abbrev pub copied : ℕ → ℕ → List Float → List Float → List Float
copied n i to from = set to n (get_or from i nan)

-- lines 317 to 341: slot i of zon at place n, in every column of reals; nmode, the one column of whole numbers, as given
unfoldable pub put_reals : Zon → AllModes → ℕ → ℕ → List ℤ → AllModes
put_reals zon m i n nmode =
    record {
      abps = copied n i m.abps zon.abps;
      crel = copied n i m.crel zon.crel;
      fldst = copied n i m.fldst zon.fldst;
      hn = copied n i m.hn zon.hn;
      hp = copied n i m.hp zon.hp;
      prob = copied n i m.prob zon.prob;
      rely = copied n i m.rely zon.rely;
      rgain = copied n i m.rgain zon.rgain;
      sigpow = copied n i m.sigpow zon.sigpow;
      sn = copied n i m.sn zon.sn;
      spro = copied n i m.spro zon.spro;
      tgain = copied n i m.tgain zon.tgain;
      timed = copied n i m.timed zon.timed;
      tloss = copied n i m.tloss zon.tloss;
      b = copied n i m.b zon.b;
      fslos = copied n i m.fslos zon.fslos;
      grlos = copied n i m.grlos zon.grlos;
      adv = copied n i m.adv zon.adv;
      obf = copied n i m.obf zon.obf;
      nmode = nmode;
      tllow = copied n i m.tllow zon.tllow;
      tlhgh = copied n i m.tlhgh zon.tlhgh;
      eff = copied n i m.eff zon.eff;
      nrel = m.nrel;
      nmmod = n + 1;
    }

-- slot i of zon after the list's last
unfoldable pub add_slot : Zon → AllModes → ℕ → AllModes
add_slot zon m i = put_reals zon m i m.nmmod (set m.nmode m.nmmod (get_or zon.nmode i (pos 0)))

-- line 316: slot i holds a mode where its hp > 0, which NaN is not
abbrev pub holds : List Float → ℕ → Bool
holds hp i = lt 0·0 (get_or hp i nan)

-- of n slots from i on, those that hold a mode
unfoldable pub held : List Float → ℕ → ℕ → List ℕ
held hp i zero = []
held hp i (suc n) = cond (holds hp i) (i ∷ held hp (suc i) n) (held hp (suc i) n)

abbrev pub accumulated : ℕ → AllModes → Accumulated
accumulated refusal modes = record { refusal = refusal; modes = modes }

-- lines 314 to 344, under limits 11 and 12 in this order: 0 and the list with those slots added, or the limit's number and the list as it was
unfoldable pub accumulate_of : AllModes → Zon → ℕ → ℕ → Accumulated
accumulate_of m zon ist lst =
    let slots = held zon.hp (ist - 1) (lst - (ist - 1)) in
    cond (slots_within ist lst)
    (cond (count_within m.nmmod (length slots)) (accumulated 0 (foldl (add_slot zon) m slots)) (accumulated refusal_count m))
    (accumulated refusal_slots m)
