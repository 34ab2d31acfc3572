use Rattle.std.proofs.Common.{arith, rules, le-ltb, lt-ltb, eq-eqb, ne_eqb, le-leb}
use Rattle.arith.proofs.RunLaws.{leads_start, leads_more, leads_done}
use borrow.Author.Tests.{lt-leb}
use Rattle.findf.specs.Look.{look_by, look_of, looks_of}
use Rattle.findf.proofs.look.looks.Goals as goal

pub loop-jfhz-init : goal.loop-jfhz-init
unfolding looks_of
loop-jfhz-init c = (search rules, leads_start _ _)

pub returns-then-entry-jfhz : goal.returns-then-entry-jfhz
unfolding look_by look_of
returns-then-entry-jfhz c = leads_done c.loop-jfhz.invariant.1 (simp (← c.entry.ensures, le-leb _ _ c.if-entry-jfhz.true)) (omega arith)

pub returns-then-at-ihigh : goal.returns-then-at-ihigh
unfolding look_by look_of
returns-then-at-ihigh c = leads_done c.loop-jfhz.invariant.1 (simp (← c.entry.ensures, lt-leb _ _ c.if-entry-jfhz.false, le-leb _ _ c.if-at-ihigh.true)) (omega arith)

pub returns-then-v-jfhz : goal.returns-then-v-jfhz
unfolding look_by look_of
returns-then-v-jfhz c = leads_done c.loop-jfhz.invariant.1 (simp (← c.entry.ensures, lt-leb _ _ c.if-entry-jfhz.false, lt-leb _ _ c.if-at-ihigh.false, ← c.entry-v.ensures, eq-eqb _ _ c.if-v-jfhz.true)) (omega arith)

pub loop-jfhz-preserved-then-v-jfhz-2 : goal.loop-jfhz-preserved-then-v-jfhz-2
unfolding look_by look_of
loop-jfhz-preserved-then-v-jfhz-2 c = (search rules, leads_more c.loop-jfhz.invariant.1 (simp (← c.entry.ensures, lt-leb _ _ c.if-entry-jfhz.false, lt-leb _ _ c.if-at-ihigh.false, ← c.entry-v.ensures, ne_eqb _ _ c.if-v-jfhz.false, lt-ltb _ _ c.if-v-jfhz-2.true)) (omega arith))

pub loop-jfhz-preserved : goal.loop-jfhz-preserved
unfolding look_by look_of
loop-jfhz-preserved c = (search rules, leads_more c.loop-jfhz.invariant.1 (simp (← c.entry.ensures, lt-leb _ _ c.if-entry-jfhz.false, lt-leb _ _ c.if-at-ihigh.false, ← c.entry-v.ensures, ne_eqb _ _ c.if-v-jfhz.false, le-ltb _ _ c.if-v-jfhz-2.false, ← c.entry-in-loop-jfhz.ensures, lt-ltb _ _ c.if-entry-jfhz-2.true)) (omega arith))

pub returns-in-loop-jfhz : goal.returns-in-loop-jfhz
unfolding look_by look_of
returns-in-loop-jfhz c = leads_done c.loop-jfhz.invariant.1 (simp (← c.entry.ensures, lt-leb _ _ c.if-entry-jfhz.false, lt-leb _ _ c.if-at-ihigh.false, ← c.entry-v.ensures, ne_eqb _ _ c.if-v-jfhz.false, le-ltb _ _ c.if-v-jfhz-2.false, ← c.entry-in-loop-jfhz.ensures, le-ltb _ _ c.if-entry-jfhz-2.false)) (omega arith)
