-- The code looks for the definition's elements in its order.
use mathlib.Core.Path.{sym, ◌∙◌}
use borrow.Author.Tests.{eq-eqb, ne_eqb}
use Rattle.names.specs.Names.{attribute_of}
use Rattle.elements.proofs.Members.{on-missing, on-found}
use Rattle.names.proofs.attribute_of.Goals as goal

pub returns-then-e-ne48 : goal.returns-then-e-ne48
unfolding attribute_of
returns-then-e-ne48 c = simp (ne_eqb _ _ c.if-e-ne48.true)

pub returns-in_default : goal.returns-in_default
unfolding attribute_of
returns-in_default c = simp (eq-eqb _ _ c.if-e-ne48.false) (on-missing _ (sym c.element_tagged.ensures ∙ c.in_default.is))

pub returns-in_default-element_at : goal.returns-in_default-element_at
unfolding attribute_of
returns-in_default-element_at c =
    simp (eq-eqb _ _ c.if-e-ne48.false) (on-found _ _ (sym c.element_tagged.ensures ∙ c.in-Some.is) (on-missing _ (sym c.element_at.ensures ∙ c.in_default-element_at.is)))

pub returns-then-value-e : goal.returns-then-value-e
unfolding attribute_of
returns-then-value-e c =
    simp (eq-eqb _ _ c.if-e-ne48.false) (on-found _ _ (sym c.element_tagged.ensures ∙ c.in-Some.is) (on-found _ _ (sym c.element_at.ensures ∙ c.in-Some-element_at.is) (simp (ne_eqb _ _ c.if-value-e.true))))

pub returns-then-holds : goal.returns-then-holds
unfolding attribute_of
returns-then-holds c =
    simp (eq-eqb _ _ c.if-e-ne48.false) (on-found _ _ (sym c.element_tagged.ensures ∙ c.in-Some.is) (on-found _ _ (sym c.element_at.ensures ∙ c.in-Some-element_at.is) (simp (eq-eqb _ _ c.if-value-e.false, sym c.holds.ensures ∙ c.if-holds.true))))

pub returns : goal.returns
unfolding attribute_of
returns c =
    simp (eq-eqb _ _ c.if-e-ne48.false) (on-found _ _ (sym c.element_tagged.ensures ∙ c.in-Some.is) (on-found _ _ (sym c.element_at.ensures ∙ c.in-Some-element_at.is) (simp (eq-eqb _ _ c.if-value-e.false, sym c.holds.ensures ∙ c.if-holds.false))))
