-- Where all headers are short and no BOOLEAN stands there, the extension is passed.
use mathlib.Core.Path.{refl, sym, ◌∙◌}
use native.Mathlib.Omega.{arith}
use Rattle.elements.proofs.Shorts.{short-within, short-inside}
use Rattle.extensions.proofs.FastMembers.{plain-octets}
use Rattle.extensions.proofs.fast.plain_end.Goals as goal

pub overflow_sub-end : goal.overflow_sub-end
overflow_sub-end c = omega (arith, short-within _ _ _ _ (sym c.short_end.ensures ∙ c.in_ok-end.was))

pub bounds-item-from : goal.bounds-item-from
bounds-item-from c = omega (arith, c.if-end-from-lt6.false, short-inside _ _ _ _ (sym c.short_end.ensures ∙ c.in_ok-end.was))

pub bounds-item-from-2 : goal.bounds-item-from-2
bounds-item-from-2 c = omega (arith, c.if-end-from-lt6.false, short-inside _ _ _ _ (sym c.short_end.ensures ∙ c.in_ok-end.was))

pub bounds-item-value : goal.bounds-item-value
bounds-item-value c = omega (arith, c.if-end-from-lt6.false, c.if-end-from.false, short-inside _ _ _ _ (sym c.short_end.ensures ∙ c.in_ok-end.was))

pub bounds-item-value-else-item-value-ne4 : goal.bounds-item-value-else-item-value-ne4
bounds-item-value-else-item-value-ne4 c = omega (arith, c.if-end-from-lt6.false, c.if-end-from.false, short-inside _ _ _ _ (sym c.short_end.ensures ∙ c.in_ok-end.was))

pub returns : goal.returns
returns c =
    plain-octets _ _ _ (sym c.short_end.ensures ∙ c.in_ok-end.was) c.if-end-from-lt6.false c.if-item-from-ne6.false refl c.if-end-from.false
    c.if-item-value-ne4.false c.if-item-value.false
