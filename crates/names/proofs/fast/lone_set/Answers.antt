-- The tests before a return are those that the SET is told by.
use mathlib.Core.Path.{refl, sym, ◌∙◌}
use native.Mathlib.Omega.{arith}
use Rattle.der.specs.Heading.{identifier_good}
use Rattle.elements.proofs.Shorts.{short-within, short-inside}
use Rattle.names.proofs.FastSets.{other-set, country-set}
use Rattle.names.proofs.fast.lone_set.Goals as goal
use Rattle.names.proofs.fast.lone_set.Goals.{then-fills-via-then-fills, then-fills-via-else-fills+then-fills-2}

pub overflow_add-at : goal.overflow_add-at
overflow_add-at c = omega (arith, short-within _ _ _ _ (sym c.short_end.ensures ∙ c.in_ok-end.was))

pub overflow_add-at-2 : goal.overflow_add-at-2
overflow_add-at-2 c = omega (arith, short-within _ _ _ _ (c.fills.ensures.whole c.if-not-fills.false))

pub overflow_sub-value : goal.overflow_sub-value
overflow_sub-value c = omega (arith, short-within _ _ _ _ (sym c.short_end-2.ensures ∙ c.in_ok-value.was))

pub bounds-item-value : goal.bounds-item-value
bounds-item-value c =
    omega
    (arith, short-within _ _ _ _ (sym c.short_end-2.ensures ∙ c.in_ok-value.was), short-inside _ _ _ _ (sym c.short_end-2.ensures ∙ c.in_ok-value.was))

pub returns-then-fills : goal.returns-then-fills
unfolding identifier_good
returns-then-fills c =
    let set = sym c.short_end.ensures ∙ c.in_ok-end.was in
    let attribute = c.fills.ensures.whole c.if-not-fills.false in
    let oid = sym c.short_end-2.ensures ∙ c.in_ok-value.was in
    elim c.then-fills.branch [
      | then-fills-via-then-fills w ↦ other-set _ _ _ set attribute oid 0x13 c.if-item-value-ne6.true refl (c.fills-then-item-value-ne6.ensures.whole w.if-fills.true)
      | then-fills-via-else-fills+then-fills-2 w ↦ other-set _ _ _ set attribute oid 0x0C c.if-item-value-ne6.true refl (w.fills-else-fills.ensures.whole w.if-fills-2.true)
    ]

pub overflow_sub-value-2 : goal.overflow_sub-value-2
overflow_sub-value-2 c = omega (arith, short-within _ _ _ _ (sym c.short_end-2.ensures ∙ c.in_ok-value.was))

pub returns : goal.returns
returns c =
    country-set _ _ _ (sym c.short_end.ensures ∙ c.in_ok-end.was) (c.fills.ensures.whole c.if-not-fills.false) (sym c.short_end-2.ensures ∙ c.in_ok-value.was)
    (omega (arith, c.if-value-at-ne9.false, short-within _ _ _ _ (sym c.short_end-2.ensures ∙ c.in_ok-value.was)))
    c.if-item-at-ne85.false c.if-item-at-ne4.false c.if-item-value-ne6.false (c.fills-2.ensures.whole c.if-not-fills-2.false)
