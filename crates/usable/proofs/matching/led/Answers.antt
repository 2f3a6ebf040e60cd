-- Each test answers one of the definition's.
use borrow.Author.Tests.{eq-eqb, ne_eqb}
use Rattle.usable.specs.Rows.{led_of}
use Rattle.usable.proofs.matching.led.Goals as goal

pub returns-then-role-eq2 : goal.returns-then-role-eq2
unfolding led_of
returns-then-role-eq2 c = simp (eq-eqb _ _ c.if-role-eq2.true)

pub returns-else-role-eq2 : goal.returns-else-role-eq2
unfolding led_of
returns-else-role-eq2 c = simp (ne_eqb _ _ c.if-role-eq2.false)
