-- Each test answers one of the definition's.
use borrow.Author.Tests.{eq-eqb, ne_eqb}
use Rattle.chain.specs.Near.{first_of}
use Rattle.chain.proofs.near.first.Goals as goal

pub returns-then-place-target : goal.returns-then-place-target
unfolding first_of
returns-then-place-target c = simp (eq-eqb _ _ c.if-place-target.true)

pub returns-then-kind-eq2 : goal.returns-then-kind-eq2
unfolding first_of
returns-then-kind-eq2 c = simp (ne_eqb _ _ c.if-place-target.false, eq-eqb _ _ c.if-kind-eq2.true)

pub returns-then-kind-eq3 : goal.returns-then-kind-eq3
unfolding first_of
returns-then-kind-eq3 c = simp (ne_eqb _ _ c.if-place-target.false, ne_eqb _ _ c.if-kind-eq2.false, eq-eqb _ _ c.if-kind-eq3.true)

pub returns : goal.returns
unfolding first_of
returns c = simp (ne_eqb _ _ c.if-place-target.false, ne_eqb _ _ c.if-kind-eq2.false, ne_eqb _ _ c.if-kind-eq3.false)
