use Rattle.std.proofs.Common.{◌≡◌, ℕ, ◌+◌, ◌-◌, ◌*◌, ◌^◌, ◌<◌, ◌≤◌, true, false, sym, ap, ◌∙◌, true≢false, le_trans, mul-le-mul, mul-one, mul-add, not-le_of_lt, arith, lit≤, ltb-true, leb-true}
use Rattle.angles.specs.Requires.{Close}
use Rattle.angles.proofs.search.Check.agrees.Goals as goal

part_le : (q e : ℕ) → q ≤ 2 ^ 60 → q * (1 - e) ≤ 2 ^ 60
part_le q e h = le_trans (mul-le-mul h (other e)) (lit≤ tt)
  where
    other : (e : ℕ) → 1 - e ≤ 1
    other e = omega arith

-- q in two parts, of which one is 0
whole : (q e : ℕ) → e ≤ 1 → q * (1 - e) + q * e ≡ q
whole q e h = sym (mul-add q (1 - e) e) ∙ ap (λ (d : ℕ). q * d) (one e h) ∙ mul-one q
  where
    one : (e : ℕ) → e ≤ 1 → 1 - e + e ≡ 1
    one e h = omega arith

-- x and y are the parts, l and h the sides
module _ (l h x y q m : ℕ) (far : l ≤ h + x) (parts : x + y ≡ q) (above : m ≤ h + x - l) (below : h + x - l + m < q) where
  agree : (low high : ℕ) → Close l low m → Close h high m → (low ≤ high + x) × (high < low + y)
  agree low high a b = (omega arith, omega arith)

pub overflow_mul-far : goal.overflow_mul-far
overflow_mul-far c =
    record { fits = room (c.args.self.slack * (1 - c.args.e)) (part_le c.args.self.slack c.args.e c.args.self.slack_bound) }
  where
    room : (x : ℕ) → x ≤ 2 ^ 60 → x < 2 ^ 64
    room x h = omega arith

pub overflow_add-far : goal.overflow_add-far
overflow_add-far c =
    record { fits = room c.args.self.sides.high (c.args.self.slack * (1 - c.args.e)) c.args.self.sides.high_bound (part_le c.args.self.slack c.args.e c.args.self.slack_bound) }
  where
    room : (h x : ℕ) → h ≤ 2 ^ 63 + 2 ^ 62 → x ≤ 2 ^ 60 → h + x < 2 ^ 64
    room h x k l = omega arith

pub overflow_add-result : goal.overflow_add-result
overflow_add-result c =
    let a = c.args in
    record { fits = room a.self.sides.high a.self.sides.low (a.self.slack * (1 - a.e)) a.self.lack c.args.self.sides.high_bound (part_le a.self.slack a.e c.args.self.slack_bound) c.args.self.lack_bound }
  where
    room : (h l x m : ℕ) → h ≤ 2 ^ 63 + 2 ^ 62 → x ≤ 2 ^ 60 → m ≤ 2 ^ 60 → h + x - l + m < 2 ^ 64
    room h l x m i j k = omega arith

pub returns-then-self-d : goal.returns-then-self-d
returns-then-self-d c =
    let a = c.args in
    λ e. agree a.self.sides.low a.self.sides.high (a.self.slack * (1 - a.e)) (a.self.slack * a.e) a.self.slack a.self.lack c.if-self-far.true (whole a.self.slack a.e c.requires) c.if-self-d.true (ltb-true (a.self.sides.high + a.self.slack * (1 - a.e) - a.self.sides.low + a.self.lack) a.self.slack e)

pub returns-else-self-d : goal.returns-else-self-d
returns-else-self-d c =
    let a = c.args in
    λ e. absurd (not-le_of_lt c.if-self-d.false (leb-true a.self.lack (a.self.sides.high + a.self.slack * (1 - a.e) - a.self.sides.low) e))

pub returns-else-self-far : goal.returns-else-self-far
returns-else-self-far c = λ (e : false ≡ true). absurd (true≢false (sym e))
