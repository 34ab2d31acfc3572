use Rattle.std.proofs.Common.{◌-◌, ◌/◌, ◌%◌, arith, rules}
use Rattle.angles.proofs.LeastLaws.{guessed}
use Rattle.angles.proofs.search.steps.Goals as goal

pub returns-then-agrees : goal.returns-then-agrees
returns-then-agrees g c =
    let m = g.A.Arc in
    let a = c.args in
    let j = a.h / 256 in
    let k = c.in-Some.ensures in
    guessed (m.low a.arc a.t) (m.high a.arc a.t) m.top c.requires.falls c.in-Some.c.slack j (a.h / 128 % 2) (search rules) k.steep (c.agrees.ensures c.if-agrees.true (m.low a.arc a.t j) (m.high a.arc a.t j) k.low k.high)

pub returns-then-agrees-2 : goal.returns-then-agrees-2
returns-then-agrees-2 g c =
    let m = g.A.Arc in
    let a = c.args in
    let j = a.h / 256 in
    let k = c.in-Some.ensures in
    guessed (m.low a.arc a.t) (m.high a.arc a.t) m.top c.requires.falls c.in-Some.c.slack j (1 - a.h / 128 % 2) (omega arith) k.steep (c.agrees-in-Some.ensures c.if-agrees-2.true (m.low a.arc a.t j) (m.high a.arc a.t j) k.low k.high)
