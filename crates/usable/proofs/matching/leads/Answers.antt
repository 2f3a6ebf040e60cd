-- Each test answers one of the definition's.
use borrow.Author.Tests.{eq-eqb, ne_eqb}
use Rattle.usable.specs.Rows.{leads_of}
use Rattle.usable.proofs.matching.leads.Goals as goal

pub returns-then-role-eq1 : goal.returns-then-role-eq1
unfolding leads_of
returns-then-role-eq1 c = simp (eq-eqb _ _ c.if-role-eq1.true)

pub returns-else-role-eq1 : goal.returns-else-role-eq1
unfolding leads_of
returns-else-role-eq1 c = simp (ne_eqb _ _ c.if-role-eq1.false)
