-- Where all headers are short the extension is told.
use mathlib.Core.Path.{sym, ◌∙◌}
use native.Mathlib.Omega.{arith}
use Rattle.elements.proofs.Shorts.{short-within, short-inside}
use Rattle.extensions.proofs.FastMembers.{member-uncritical, member-critical}
use Rattle.extensions.proofs.fast.brief_at.Goals as goal

pub overflow_add-at : goal.overflow_add-at
overflow_add-at c = omega (arith, short-within _ _ _ _ (sym c.short_end.ensures ∙ c.in_ok-end.was))

pub overflow_add-oid : goal.overflow_add-oid
overflow_add-oid c = omega (arith, short-within _ _ _ _ (sym c.short_end-2.ensures ∙ c.in_ok-next.was))

pub overflow_add-value : goal.overflow_add-value
overflow_add-value c = omega (arith, short-within _ _ _ _ (c.fills.ensures.whole c.if-fills.true))

pub returns-then-fills : goal.returns-then-fills
returns-then-fills c = member-uncritical _ _ _ (sym c.short_end.ensures ∙ c.in_ok-end.was) (sym c.short_end-2.ensures ∙ c.in_ok-next.was) (c.fills.ensures.whole c.if-fills.true)

pub overflow_sub-at : goal.overflow_sub-at
overflow_sub-at c = omega (arith, short-within _ _ _ _ (sym c.short_end-3.ensures ∙ c.in_ok-at.was))

pub bounds-item-next : goal.bounds-item-next
bounds-item-next c =
    omega (arith, c.if-at-next-ne3.false, short-within _ _ _ _ (sym c.short_end-3.ensures ∙ c.in_ok-at.was), short-inside _ _ _ _ (sym c.short_end-3.ensures ∙ c.in_ok-at.was))

pub returns : goal.returns
returns c =
    member-critical _ _ _ (sym c.short_end.ensures ∙ c.in_ok-end.was) (sym c.short_end-2.ensures ∙ c.in_ok-next.was) (sym c.short_end-3.ensures ∙ c.in_ok-at.was)
    c.if-item-next.false (c.fills-2.ensures.whole c.if-not-fills.false)
