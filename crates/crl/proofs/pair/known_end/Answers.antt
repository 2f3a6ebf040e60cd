-- Each header is where it has to be, and the OID has its three octets.
use mathlib.Core.Path.{sym, ◌∙◌}
use native.Mathlib.Omega.{arith}
use Rattle.elements.proofs.Shorts.{short-within, short-inside}
use Rattle.crl.proofs.Pairs.{known-octets}
use Rattle.crl.proofs.pair.known_end.Goals as goal

pub overflow_add-from : goal.overflow_add-from
overflow_add-from c = omega (arith, short-within _ _ _ _ (sym c.short_end.ensures ∙ c.in_ok-end.was))

pub overflow_sub-next : goal.overflow_sub-next
overflow_sub-next c = omega (arith, short-within _ _ _ _ (sym c.short_end-2.ensures ∙ c.in_ok-next.was))

pub bounds-item-from : goal.bounds-item-from
bounds-item-from c = omega (arith, c.if-next-from-ne7.false, short-inside _ _ _ _ (sym c.short_end-2.ensures ∙ c.in_ok-next.was))

pub bounds-item-from-else-item-from-ne85 : goal.bounds-item-from-else-item-from-ne85
bounds-item-from-else-item-from-ne85 c = omega (arith, c.if-next-from-ne7.false, short-inside _ _ _ _ (sym c.short_end-2.ensures ∙ c.in_ok-next.was))

pub bounds-item-from-else-item-from-ne29 : goal.bounds-item-from-else-item-from-ne29
bounds-item-from-else-item-from-ne29 c = omega (arith, c.if-next-from-ne7.false, short-inside _ _ _ _ (sym c.short_end-2.ensures ∙ c.in_ok-next.was))

pub returns : goal.returns
returns c =
    known-octets _ _ _ _ (sym c.short_end.ensures ∙ c.in_ok-end.was) (sym c.short_end-2.ensures ∙ c.in_ok-next.was)
    (omega (arith, c.if-next-from-ne7.false, short-within _ _ _ _ (sym c.short_end-2.ensures ∙ c.in_ok-next.was))) c.if-item-from-ne85.false c.if-item-from-ne29.false
    c.if-item-from.false (c.fills.ensures.whole c.if-not-fills.false)
