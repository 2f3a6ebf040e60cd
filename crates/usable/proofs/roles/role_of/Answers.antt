-- Each test answers one law of the definition.
use mathlib.Core.Path.{sym, ◌∙◌}
use borrow.Author.Tests.{eq-eqb, ne_eqb}
use Rattle.usable.proofs.RowLaws.{role-unspoken, role-link, role-signer, role-anchor, role-none}
use Rattle.usable.proofs.roles.role_of.Goals as goal

pub returns-then-spoken-ne1 : goal.returns-then-spoken-ne1
returns-then-spoken-ne1 c = sym (role-unspoken _ _ (sym c.signed.ensures ∙ c.if-signed.true) (ne_eqb _ _ c.if-spoken-ne1.true))

pub returns-then-row-eq2 : goal.returns-then-row-eq2
returns-then-row-eq2 c = sym (role-link _ _ (sym c.signed.ensures ∙ c.if-signed.true) (eq-eqb _ _ c.if-spoken-ne1.false) (eq-eqb _ _ c.if-row-eq2.true))

pub returns-then-signed : goal.returns-then-signed
returns-then-signed c = sym (role-signer _ _ (sym c.signed.ensures ∙ c.if-signed.true) (eq-eqb _ _ c.if-spoken-ne1.false) (ne_eqb _ _ c.if-row-eq2.false))

pub returns-then-row-eq1 : goal.returns-then-row-eq1
returns-then-row-eq1 c = sym (role-anchor _ _ (sym c.signed.ensures ∙ c.if-signed.false) (eq-eqb _ _ c.if-row-eq1.true))

pub returns : goal.returns
returns c = sym (role-none _ _ (sym c.signed.ensures ∙ c.if-signed.false) (ne_eqb _ _ c.if-row-eq1.false))
