-- The kind decides, and for an anchor the flag.
use borrow.Author.Tests.{eq-eqb, ne_eqb}
use Rattle.usable.specs.Rows.{blank, row_of}
use Rattle.usable.proofs.opening.open_item.Goals as goal
use Rattle.usable.proofs.opening.open_item.Goals.{else-kind-eq1-via-then-kind-eq1+else-flags-ne1, else-kind-eq1-via-else-kind-eq1}

pub returns-then-kind-eq4 : goal.returns-then-kind-eq4
unfolding row_of
returns-then-kind-eq4 c a b = rw (eq-eqb _ _ c.if-kind-eq4.true) (c.list_row.ensures _ _ a b)

pub returns-then-flags-ne1 : goal.returns-then-flags-ne1
unfolding row_of blank
returns-then-flags-ne1 c a b = rw (ne_eqb _ _ c.if-kind-eq4.false, eq-eqb _ _ c.if-kind-eq1.true, ne_eqb _ _ c.if-flags-ne1.true)

pub returns : goal.returns
unfolding row_of
returns c a b =
    elim c.else-kind-eq1.branch [
      | else-kind-eq1-via-then-kind-eq1+else-flags-ne1 w ↦
          rw (ne_eqb _ _ c.if-kind-eq4.false, eq-eqb _ _ w.if-kind-eq1.true, eq-eqb _ _ w.if-flags-ne1.false) (c.certificate_row.ensures a b)
      | else-kind-eq1-via-else-kind-eq1 w ↦ rw (ne_eqb _ _ c.if-kind-eq4.false, ne_eqb _ _ w.if-kind-eq1.false) (c.certificate_row.ensures a b)
    ]
