-- The header is read as its definition says, and the tests say what is promised of it.
use Prim.Native.Nat.{◌+◌, ◌/◌, ◌%◌, ◌≤◌}
use mathlib.Core.Path.{◌≡◌, refl, sym, ◌∙◌}
use native.Mathlib.Omega.{arith}
use borrow.Author.Tests.{eq-eqb, ne_eqb}
use lib.ListN.{length, get_or}
use Rattle.der.specs.Heading.{constructed}
use Rattle.der.specs.Order.{is_set}
use Rattle.der.proofs.Going.{Heads, heads-within, into-by}
use Rattle.der.proofs.onward.sole.Goals as goal
use Rattle.der.proofs.onward.sole.Goals.{In_ok-tag}

heads : (c : In_ok-tag)
    → Heads c.args.limits c.args.s.now c.args.place.at c.in_ok-tag.field-0.tag c.in_ok-tag.field-0.skip
    c.in_ok-tag.field-0.size
heads c forms octets tags = sym (c.header.ensures forms octets tags) ∙ c.in_ok-tag.was

within : (c : In_ok-tag)
    → (2 ≤ c.in_ok-tag.field-0.skip) × (c.args.place.at + c.in_ok-tag.field-0.skip + c.in_ok-tag.field-0.size ≤ length c.args.s.now)
within c = heads-within c.args.limits c.args.s.now c.args.place.at _ _ _ c.requires.0 (heads c)

pub bounds-s-at : goal.bounds-s-at
bounds-s-at c = omega (arith, within (goal.at.bounds-s-at c).In_ok-tag)

pub overflow_add-from : goal.overflow_add-from
overflow_add-from c = omega (arith, within (goal.at.overflow_add-from c).In_ok-tag)

pub overflow_add-from-2 : goal.overflow_add-from-2
overflow_add-from-2 c = omega (arith, within (goal.at.overflow_add-from-2 c).In_ok-tag)

pub returns : goal.returns
unfolding constructed is_set
returns c =
    let s = c.args.s.now in
    let at = c.args.place.at in
    let odd : get_or s at 0 / 32 % 2 ≡ 1 = omega (arith, c.if-s-at-eq0.false) in
    record {
      into = into-by _ s at _ _ _ c.requires.0 (heads (goal.at.returns c).In_ok-tag) c.if-from-size.false (eq-eqb _ _ odd) (ne_eqb _ _ c.if-tag-eq49.false);
      some = omega (arith, c.if-left-eq0.false);
      few = c.if-limits-count.false;
      levels = refl;
      counted = refl;
    }
