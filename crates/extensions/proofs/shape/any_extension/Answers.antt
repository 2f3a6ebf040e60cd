-- The elements are read in the order of the definition; where the BOOLEAN has no octet, the definition reads 0 there.
use mathlib.Core.Path.{sym, ◌∙◌}
use borrow.Author.Tests.{eq-eqb, ne_eqb}
use lib.ListN.{get_or-eq_default}
use Rattle.extensions.specs.Extensions.{extension_of}
use Rattle.elements.proofs.Members.{on-none, on-found}
use Rattle.extensions.proofs.shape.any_extension.Goals as goal
use Rattle.extensions.proofs.shape.any_extension.Goals.{then-item-flag-via-then-item-flag, then-item-flag-via-else-item-flag+then-item-flag-2}

pub returns-then-e-ne48 : goal.returns-then-e-ne48
unfolding extension_of
returns-then-e-ne48 c = rw (ne_eqb _ _ c.if-e-ne48.true)

pub returns-in_err-oid : goal.returns-in_err-oid
unfolding extension_of
returns-in_err-oid c = rw (eq-eqb _ _ c.if-e-ne48.false) (on-none _ (sym c.element_tagged.ensures ∙ c.in_err-oid.was) c.from_residual.ensures)

pub returns-in_err-next : goal.returns-in_err-next
unfolding extension_of
returns-in_err-next c =
    rw (eq-eqb _ _ c.if-e-ne48.false)
    (on-found _ _ (sym c.element_tagged.ensures ∙ c.in_ok-oid.was) (on-none _ (sym c.element_at.ensures ∙ c.in_err-next.was) c.from_residual-in_err-next.ensures))

pub returns-then-next-ne1 : goal.returns-then-next-ne1
unfolding extension_of
returns-then-next-ne1 c =
    rw (eq-eqb _ _ c.if-e-ne48.false) (on-found _ _ (sym c.element_tagged.ensures ∙ c.in_ok-oid.was) (on-found _ _ (sym c.element_at.ensures ∙ c.in_ok-next.was) (rw (ne_eqb _ _ c.if-next-ne1.true) c.holding.ensures)))

pub returns-then-item-flag : goal.returns-then-item-flag
unfolding extension_of
returns-then-item-flag c =
    rw (eq-eqb _ _ c.if-e-ne48.false) (on-found _ _ (sym c.element_tagged.ensures ∙ c.in_ok-oid.was) (on-found _ _ (sym c.element_at.ensures ∙ c.in_ok-next.was) (rw (eq-eqb _ _ c.if-next-ne1.false)
    (elim c.then-item-flag.branch [
      | then-item-flag-via-then-item-flag w ↦ rw (get_or-eq_default c.args.item.now 0 w.if-item-flag.true)
      | then-item-flag-via-else-item-flag+then-item-flag-2 w ↦ rw (ne_eqb _ _ w.if-item-flag-2.true)
    ]))))

pub returns : goal.returns
unfolding extension_of
returns c =
    rw (eq-eqb _ _ c.if-e-ne48.false) (on-found _ _ (sym c.element_tagged.ensures ∙ c.in_ok-oid.was) (on-found _ _ (sym c.element_at.ensures ∙ c.in_ok-next.was)
    (rw (eq-eqb _ _ c.if-next-ne1.false, eq-eqb _ _ c.if-item-flag-2.false, ← c.element_at-2.ensures) c.holding-2.ensures)))
