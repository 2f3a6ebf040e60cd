-- Each test answers one of the definition's.
use borrow.Author.Tests.{eq-eqb, ne_eqb}
use Rattle.chain.specs.Near.{marked_of}
use Rattle.chain.proofs.near.marked.Goals as goal

pub returns-then-mark-eq2 : goal.returns-then-mark-eq2
unfolding marked_of
returns-then-mark-eq2 c = simp (eq-eqb _ _ c.if-mark-eq2.true)

pub returns : goal.returns
unfolding marked_of
returns c = simp (ne_eqb _ _ c.if-mark-eq2.false)
