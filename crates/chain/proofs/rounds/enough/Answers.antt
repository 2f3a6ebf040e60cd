-- Each test answers one of the definition's.
use native.Mathlib.Omega.{arith}
use borrow.Author.Tests.{eq-eqb, ne_eqb}
use Rattle.chain.specs.Rounds.{enough_of}
use Rattle.chain.proofs.rounds.enough.Goals as goal

pub returns-then-round-eq-LAST : goal.returns-then-round-eq-LAST
unfolding enough_of
returns-then-round-eq-LAST c = simp (eq-eqb _ _ c.if-round-eq-LAST.true)

pub overflow_add-result : goal.overflow_add-result
overflow_add-result c = omega arith

pub returns-else-length-ne0 : goal.returns-else-length-ne0
unfolding enough_of
returns-else-length-ne0 c = simp (ne_eqb _ _ c.if-round-eq-LAST.false, eq-eqb _ _ c.if-length-ne0.false)

pub returns-then-length-ne0 : goal.returns-then-length-ne0
unfolding enough_of
returns-then-length-ne0 c = simp (ne_eqb _ _ c.if-round-eq-LAST.false, ne_eqb _ _ c.if-length-ne0.true)
