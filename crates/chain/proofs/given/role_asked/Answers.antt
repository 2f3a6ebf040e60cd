-- Each test answers one of the definition's.
use borrow.Author.Tests.{eq-eqb, ne_eqb}
use Rattle.chain.specs.Given.{role_asked}
use Rattle.chain.proofs.given.role_asked.Goals as goal

pub returns-then-i-eq0 : goal.returns-then-i-eq0
unfolding role_asked
returns-then-i-eq0 c = simp (eq-eqb _ _ c.if-i-eq0.true)

pub returns : goal.returns
unfolding role_asked
returns c = simp (ne_eqb _ _ c.if-i-eq0.false)
