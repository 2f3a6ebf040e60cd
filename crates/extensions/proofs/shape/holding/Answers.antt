-- The element is tested in the order of the definition: that it is there, its tag, its end.
use borrow.Author.Tests.{eq-eqb, ne_eqb}
use Rattle.extensions.specs.Extensions.{holding_of}
use Rattle.elements.proofs.Members.{on-none, on-missing, on-found, tag-missing, tag-kept, tag-other}
use Rattle.extensions.proofs.shape.holding.Goals as goal
use Rattle.extensions.proofs.shape.holding.Goals.{then-value-ne4-via-then-value-ne4, then-value-ne4-via-else-value-ne4+then-value-extension}

pub returns-in_err-value : goal.returns-in_err-value
unfolding holding_of
returns-in_err-value c = on-none _ (tag-missing _ c.in_err-value.was) c.from_residual.ensures

pub returns-then-value-ne4 : goal.returns-then-value-ne4
unfolding holding_of
returns-then-value-ne4 c =
    elim c.then-value-ne4.branch [
      | then-value-ne4-via-then-value-ne4 w ↦ on-missing _ (tag-other _ c.in_ok-value.was w.if-value-ne4.true)
      | then-value-ne4-via-else-value-ne4+then-value-extension w ↦
          on-found _ _ (tag-kept _ c.in_ok-value.was w.if-value-ne4.false) (rw (ne_eqb _ _ w.if-value-extension.true))
    ]

pub returns : goal.returns
unfolding holding_of
returns c = on-found _ _ (tag-kept _ c.in_ok-value.was c.if-value-ne4.false) (rw (eq-eqb _ _ c.if-value-extension.false))
