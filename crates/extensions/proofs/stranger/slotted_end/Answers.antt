-- The member opens with an OID that has a slot.
use mathlib.Core.Path.{refl, sym, ◌∙◌}
use native.Mathlib.Omega.{arith}
use borrow.Author.Tests.{eq-eqb}
use Rattle.elements.proofs.Shorts.{short-within, short-inside}
use Rattle.extensions.proofs.FastMembers.{passed-slot}
use Rattle.extensions.proofs.stranger.slotted_end.Goals as goal

pub overflow_add-from : goal.overflow_add-from
overflow_add-from c = omega (arith, short-within _ _ _ _ (sym c.short_end.ensures ∙ c.in_ok-end.was))

pub overflow_sub-next : goal.overflow_sub-next
overflow_sub-next c = omega (arith, short-within _ _ _ _ (sym c.short_end-2.ensures ∙ c.in_ok-next.was))

pub bounds-item-from : goal.bounds-item-from
bounds-item-from c = omega (arith, c.if-next-from-ne7.false, short-inside _ _ _ _ (sym c.short_end-2.ensures ∙ c.in_ok-next.was))

pub bounds-item-from-2 : goal.bounds-item-from-2
bounds-item-from-2 c = omega (arith, c.if-next-from-ne7.false, short-inside _ _ _ _ (sym c.short_end-2.ensures ∙ c.in_ok-next.was))

pub bounds-item-from-3 : goal.bounds-item-from-3
bounds-item-from-3 c = omega (arith, c.if-next-from-ne7.false, short-inside _ _ _ _ (sym c.short_end-2.ensures ∙ c.in_ok-next.was))

pub returns : goal.returns
returns c =
    let slot = c.slot_by in
    passed-slot _ _ _ (sym c.short_end.ensures ∙ c.in_ok-end.was) (sym c.short_end-2.ensures ∙ c.in_ok-next.was)
    (omega (arith, c.if-next-from-ne7.false, short-within _ _ _ _ (sym c.short_end-2.ensures ∙ c.in_ok-next.was))) (omega (arith, slot.ensures.0, c.if-slot_by-eq23.false))
    (sym (slot.ensures.1 slot.result (omega (arith, slot.ensures.0, c.if-slot_by-eq23.false))) ∙ eq-eqb slot.result slot.result refl)
