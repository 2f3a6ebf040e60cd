-- By its header the element is the last of the list, or a primitive with good contents; a SET that is last has one member, which is last too.
use Rattle.std.proofs.lemmas.Option.{IfSome_then}
use Prim.Native.Nat.{◌+◌, ◌≤◌}
use mathlib.Core.Path.{sym, ◌∙◌}
use native.Mathlib.Omega.{arith}
use borrow.Author.Tests.{eq-eqb, ne_eqb}
use lib.ListN.{length}
use Rattle.der.specs.Heading.{constructed}
use Rattle.der.specs.Order.{is_set}
use Rattle.der.proofs.Going.{Heads, heads-within, into-by, onward-leaf, onward-into, onward-sole}
use Rattle.der.proofs.onward.onward.Goals as goal
use Rattle.der.proofs.onward.onward.Goals.{In_ok-tag}

heads : (c : In_ok-tag)
    → Heads c.args.limits c.args.s.now c.args.place.at c.in_ok-tag.field-0.tag c.in_ok-tag.field-0.skip
    c.in_ok-tag.field-0.size
heads c forms octets tags = sym (c.header.ensures forms octets tags) ∙ c.in_ok-tag.was

within : (c : In_ok-tag)
    → (2 ≤ c.in_ok-tag.field-0.skip) × (c.args.place.at + c.in_ok-tag.field-0.skip + c.in_ok-tag.field-0.size ≤ length c.args.s.now)
within c = heads-within c.args.limits c.args.s.now c.args.place.at _ _ _ (omega (arith, c.requires.0)) (heads c)

pub overflow_add-from : goal.overflow_add-from
overflow_add-from c = omega (arith, within (goal.at.overflow_add-from c).In_ok-tag)

pub overflow_add-after : goal.overflow_add-after
overflow_add-after c = omega (arith, within (goal.at.overflow_add-after c).In_ok-tag)

pub sole-requires : goal.sole-requires
sole-requires c = omega (arith, within (goal.at.sole-requires c).In_ok-tag)

pub returns-then-tag-eq49 : goal.returns-then-tag-eq49
unfolding constructed is_set
returns-then-tag-eq49 c =
    IfSome_then c.sole.result c.sole.ensures λ to told.
    onward-sole (omega (arith, c.if-left-eq0.false)) c.if-limits-count.false
    (into-by _ c.args.s.now c.args.place.at _ _ _ (omega (arith, c.requires.0)) (heads (goal.at.returns-then-tag-eq49 c).In_ok-tag)
    c.if-after-s.false (eq-eqb _ _ c.if-s-at-eq1.true) (eq-eqb _ _ c.if-tag-eq49.true))
    told

pub returns-else-tag-eq49 : goal.returns-else-tag-eq49
unfolding constructed is_set
returns-else-tag-eq49 c =
    onward-into (omega (arith, c.if-left-eq0.false)) c.if-limits-count.false
    (into-by _ c.args.s.now c.args.place.at _ _ _ (omega (arith, c.requires.0)) (heads (goal.at.returns-else-tag-eq49 c).In_ok-tag)
    c.if-after-s.false (eq-eqb _ _ c.if-s-at-eq1.true) (ne_eqb _ _ c.if-tag-eq49.false))

pub slice_bounds-contents_good-end : goal.slice_bounds-contents_good-end
slice_bounds-contents_good-end c = omega (arith, within (goal.at.slice_bounds-contents_good-end c).In_ok-tag)

pub returns-then-contents_good : goal.returns-then-contents_good
unfolding constructed
returns-then-contents_good c =
    onward-leaf (omega (arith, c.if-left-eq0.false)) c.if-limits-count.false _ _ _ (heads (goal.at.returns-then-contents_good c).In_ok-tag) c.requires.0
    (ne_eqb _ _ c.if-s-at-eq1.false) (sym c.contents_good.ensures ∙ c.if-contents_good.true)
