-- penang, modes.rs lines 601 to 668: the angles, in degrees, up to which the layers E, F1 and F2 reflect.
-- Document 01: "Rows count from 1." Here they count from 0: row 10 is `get_or fvert 9`.
use Rattle.std.specs.Prelude.{Bool, true, false, cond, List, [], ◌∷◌, get_or, Float}
use Rattle.std.specs.Float.{nan}
use Rattle.std.specs.Float.Ieee.{lt, le}
use Rattle.arith.specs.Floats.{◌⊕◌, ◌⊖◌, ◌⊗◌, ◌⊘◌, RZ, R2D}
use Rattle.arith.specs.Numbers.{0·0, 0·0001, 0·9999, 0·999999, 1·0, 89·9, 90·0}
use Rattle.root.specs.Root.{sqrt_of}
use Rattle.angles.specs.Arccosine.{acos_of}
use Rattle.penang.specs.declared.Penetration.{Penetration}

-- "the squared ratio fvert/freq" (lines 609 to 610)
unfoldable pub frat_of : Float → Float → Float
frat_of fv freq = (fv ⊘ freq) ⊗ (fv ⊘ freq)

-- "the angle is arccosine(c) × R2D where c ≤ 0.999999, else 0" (lines 616 to 620)
unfoldable pub angle_of : Float → Float
angle_of c = cond (le c 0·999999) (acos_of c ⊗ R2D) 0·0

-- "c = (RZ + htrue) × root(1 − ratio) / RZ" (line 615)
unfoldable pub cusp_of : Float → Float → Float
cusp_of ht frat = angle_of (((RZ ⊕ ht) ⊗ sqrt_of (1·0 ⊖ frat)) ⊘ RZ)

-- (RZ + HT) × MU of one of the top three rows (lines 647 to 649)
unfoldable pub xm_of : Float → Float → Float → Float
xm_of fv ht freq = (RZ ⊕ ht) ⊗ sqrt_of (1·0 ⊖ frat_of fv freq)

-- "the comparison chain over rows 30, 29, 28" (lines 650 to 660); with a NaN among them it is no maximum
unfoldable pub cdel_of : Float → Float → Float → Float
cdel_of xm28 xm29 xm30 =
    cond (le xm29 xm30) (cond (le xm28 xm30) (xm30 ⊘ RZ) (xm28 ⊘ RZ))
    (cond (le xm28 xm29) (xm29 ⊘ RZ) (xm28 ⊘ RZ))

-- the three angles, and whether dskpkm and dmaxkm become −1
abbrev pub penetration : Float → Float → Float → Bool → Penetration
penetration e f1 f2 dead = record { delpen = e ∷ f1 ∷ f2 ∷ []; dead = dead }

-- "Only F2's c > 0.999999, or NaN, sets its angle 0 and dskpkm and dmaxkm to −1" (lines 661 to 667)
unfoldable pub top_of : Float → Float → Float → Penetration
top_of e f1 c = cond (le c 0·999999) (penetration e f1 (acos_of c ⊗ R2D) false) (penetration e f1 0·0 true)

-- "F2 is 89.9 if fvert 30 − freq + 0.0001 ≥ 0; else the comparison chain" (lines 643 to 667)
unfoldable pub f2_of : List Float → List Float → Float → Float → Float → Penetration
f2_of fvert htrue freq e f1 =
    cond (le 0·0 ((get_or fvert 29 nan ⊖ freq) ⊕ 0·0001)) (penetration e f1 89·9 false)
    (top_of e f1
    (cdel_of (xm_of (get_or fvert 27 nan) (get_or htrue 27 nan) freq) (xm_of (get_or fvert 28 nan) (get_or htrue 28 nan) freq)
    (xm_of (get_or fvert 29 nan) (get_or htrue 29 nan) freq)))

-- "F1 does so with row 20 if fi of the point, second number, is above 0 (≥ 0.9999: 89.9, and F2 90, end); else it copies E's" (lines 621 to 640)
unfoldable pub f1_of : List Float → List Float → Float → Float → Float → Penetration
f1_of fvert htrue second freq e =
    cond (lt 0·0 second)
    (cond (le 0·9999 (frat_of (get_or fvert 19 nan) freq)) (penetration e 89·9 90·0 false)
    (f2_of fvert htrue freq e (cusp_of (get_or htrue 19 nan) (frat_of (get_or fvert 19 nan) freq))))
    (f2_of fvert htrue freq e e)

-- "E uses row 10. If the squared ratio fvert/freq is ≥ 0.9999 the three angles are 89.9, 90, 90 and it ends" (lines 606 to 620)
unfoldable pub penang_of : List Float → List Float → Float → Float → Penetration
penang_of fvert htrue second freq =
    cond (le 0·9999 (frat_of (get_or fvert 9 nan) freq)) (penetration 89·9 90·0 90·0 false)
    (f1_of fvert htrue second freq (cusp_of (get_or htrue 9 nan) (frat_of (get_or fvert 9 nan) freq)))
