-- The constants are the ranges of document 01. Assumes nothing.
use mathlib.Core.Path.{◌≡◌, refl}
use mathlib.Core.Bool.{Bool, ◌&&◌}
use lib.Ieee.{Float, neg, of_bits}
use Rattle.limits.specs.declared.TheConstants.{FREQ, AMIND, GHOP, FI_2, FI_3, FVERT, HPRIM, HTRUE, AFAC, HS, GCD, GCDKM, FS}
use Rattle.limits.specs.declared.Range.{Range}
use Rattle.limits.specs.Limits.{within, freq_within, amind_within, ghop_within, fi_within, fvert_within, hprim_within, htrue_within, afac_within, hs_within, gcd_within, gcdkm_within, fs_within}

abbrev inside : Range → Float → Bool
inside r = within r.0 r.1

pub freq : inside FREQ ≡ freq_within
freq = refl

pub amind : inside AMIND ≡ amind_within
amind = refl

pub ghop : inside GHOP ≡ ghop_within
ghop = refl

pub fi : (second third : Float) → (inside FI_2 second && inside FI_3 third) ≡ fi_within second third
fi second third = refl

pub fvert : inside FVERT ≡ fvert_within
fvert = refl

pub hprim : inside HPRIM ≡ hprim_within
hprim = refl

pub htrue : inside HTRUE ≡ htrue_within
htrue = refl

pub afac : inside AFAC ≡ afac_within
unfolding neg of_bits
afac = refl

pub hs : inside HS ≡ hs_within
hs = refl

pub gcd : inside GCD ≡ gcd_within
gcd = refl

pub gcdkm : inside GCDKM ≡ gcdkm_within
gcdkm = refl

pub fs : inside FS ≡ fs_within
fs = refl
