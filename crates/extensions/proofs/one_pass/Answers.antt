-- The extensions before `at` are told by what was found; those from `at` on are left.
use mathlib.Core.Path.{sym, ◌∙◌}
use native.Mathlib.Omega.{arith}
use Rattle.elements.proofs.Members.{found_within}
use Rattle.extensions.specs.Extensions.{held_of}
use Rattle.extensions.proofs.Passing.{far-start, far-new, far-again, far-stranger, far_none, end-shape, end-marks, end-harsh, end-placed, end-asked, end-apart, end-twice}
use Rattle.extensions.proofs.one_pass.Goals as goal
use Rattle.extensions.proofs.one_pass.Goals.{else-not-repeated-via-then-not-repeated+else-unsure, else-not-repeated-via-else-not-repeated}

pub loop-next-init : goal.loop-next-init
unfolding held_of
loop-next-init c = far-start _ _

pub bounds-slots-slot : goal.bounds-slots-slot
bounds-slots-slot c =
    omega (arith, c.loop-next.invariant.table.long, c.if-slot-lt23.true)

pub bounds-slots-slot-else-is_some : goal.bounds-slots-slot-else-is_some
bounds-slots-slot-else-is_some c =
    omega (arith, c.loop-next.invariant.table.long, c.if-slot-lt23.true)

pub bounds-marks-mark : goal.bounds-marks-mark
bounds-marks-mark c =
    omega (arith, c.loop-next.invariant.apart.wide, c.mark_of-mark.ensures.low)

pub bounds-marks-mark-then-slot-ne24 : goal.bounds-marks-mark-then-slot-ne24
bounds-marks-mark-then-slot-ne24 c =
    omega (arith, c.loop-next.invariant.apart.wide, c.mark_of-mark.ensures.low)

pub loop-next-smaller-then-is_some : goal.loop-next-smaller-then-is_some
loop-next-smaller-then-is_some c =
    omega (arith, c.in-Some.ensures.ends, found_within _ _ _ c.in-Some.ensures.found)

pub loop-next-preserved-then-is_some : goal.loop-next-preserved-then-is_some
unfolding held_of
loop-next-preserved-then-is_some c =
    far-again c.loop-next.invariant c.in-Some.ensures.found c.in-Some.ensures.ends (rw c.in-Some.ensures.is at c.slot_of-slot.ensures) (rw (← c.in-Some.ensures.is) (c.is_critical-marked.ensures _)) (rw (← c.in-Some.ensures.is) (c.unusual-critical.ensures _ c.slot_of-slot.ensures)) c.if-slot-lt23.true (sym c.is_some.ensures ∙ c.if-is_some.true)

pub loop-next-smaller-else-is_some : goal.loop-next-smaller-else-is_some
loop-next-smaller-else-is_some c =
    omega (arith, c.in-Some.ensures.ends, found_within _ _ _ c.in-Some.ensures.found)

pub loop-next-preserved-else-is_some : goal.loop-next-preserved-else-is_some
unfolding held_of
loop-next-preserved-else-is_some c =
    far-new c.loop-next.invariant c.in-Some.ensures.found c.in-Some.ensures.ends (rw c.in-Some.ensures.is at c.slot_of-slot.ensures) (rw (← c.in-Some.ensures.is) (c.is_critical-marked.ensures _)) (rw (← c.in-Some.ensures.is) (c.unusual-critical.ensures _ c.slot_of-slot.ensures)) (rw (← c.in-Some.ensures.is) c.held_of.ensures) c.if-slot-lt23.true (sym c.is_some.ensures ∙ c.if-is_some.false)

pub loop-next-smaller-then-slot-ne24 : goal.loop-next-smaller-then-slot-ne24
loop-next-smaller-then-slot-ne24 c =
    let met = c.in-Some.ensures in
    omega (arith, met.ends, found_within _ _ _ met.found)

pub loop-next-preserved-then-slot-ne24 : goal.loop-next-preserved-then-slot-ne24
loop-next-preserved-then-slot-ne24 c =
    let met = c.in-Some.ensures in
    let slotted = c.slot_of-slot.ensures in
    far-stranger c.loop-next.invariant met.found met.ends (rw met.is at slotted) (rw (← met.is) (c.is_critical-marked.ensures _))
    (rw (← met.is) (c.unusual-critical.ensures _ slotted)) c.if-slot-lt23.false c.if-slot-ne24.true
    (rw (← met.is) c.mark_of-mark.ensures.is) c.mark_of-mark.ensures.low

pub loop-next-smaller : goal.loop-next-smaller
loop-next-smaller c =
    omega (arith, c.in-Some.ensures.ends, found_within _ _ _ c.in-Some.ensures.found)

pub loop-next-preserved : goal.loop-next-preserved
loop-next-preserved c =
    far_none c.loop-next.invariant c.in-Some.ensures.found c.in-Some.ensures.ends (rw c.in-Some.ensures.is at c.slot_of-slot.ensures) (rw (← c.in-Some.ensures.is) (c.is_critical-marked.ensures _)) (rw (← c.in-Some.ensures.is) (c.unusual-critical.ensures _ c.slot_of-slot.ensures)) c.if-slot-ne24.false

pub returns-then-unsure : goal.returns-then-unsure
returns-then-unsure c =
    record {
      shaped = end-shape c.loop-next.invariant c.in_default.ensures;
      marked = end-marks c.loop-next.invariant c.in_default.ensures;
      critical = end-harsh c.loop-next.invariant c.in_default.ensures;
      doubled =
          c.doubled-repeated.ensures
          ∙ end-asked c.loop-next.invariant c.in_default.ensures c.if-not-repeated.true;
      placed =
          end-placed c.loop-next.invariant c.in_default.ensures;
    }

pub returns-else-not-repeated : goal.returns-else-not-repeated
returns-else-not-repeated c =
    record {
      shaped = end-shape c.loop-next.invariant c.in_default.ensures;
      marked = end-marks c.loop-next.invariant c.in_default.ensures;
      critical = end-harsh c.loop-next.invariant c.in_default.ensures;
      doubled =
          elim c.else-not-repeated.branch [
            | else-not-repeated-via-then-not-repeated+else-unsure w ↦
                end-apart c.loop-next.invariant c.in_default.ensures w.if-not-repeated.true w.if-unsure.false
            | else-not-repeated-via-else-not-repeated w ↦ end-twice c.loop-next.invariant c.in_default.ensures w.if-not-repeated.false
          ];
      placed = end-placed c.loop-next.invariant c.in_default.ensures;
    }
