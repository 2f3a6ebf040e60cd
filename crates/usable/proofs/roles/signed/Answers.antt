-- Each test answers one of the definition's.
use borrow.Author.Tests.{eq-eqb, ne_eqb}
use Rattle.usable.specs.Rows.{signed_of}
use Rattle.usable.proofs.roles.signed.Goals as goal

pub returns-then-row-eq2 : goal.returns-then-row-eq2
unfolding signed_of
returns-then-row-eq2 c = simp (eq-eqb _ _ c.if-row-eq2.true)

pub returns-else-row-eq2 : goal.returns-else-row-eq2
unfolding signed_of
returns-else-row-eq2 c = simp (ne_eqb _ _ c.if-row-eq2.false)
