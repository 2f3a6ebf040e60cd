-- Each test answers one of the definition's.
use borrow.Author.Tests.{eq-eqb, ne_eqb}
use Rattle.chain.specs.Near.{waiting_of}
use Rattle.chain.proofs.near.waiting.Goals as goal

pub returns-then-kind-eq4 : goal.returns-then-kind-eq4
unfolding waiting_of
returns-then-kind-eq4 c = simp (eq-eqb _ _ c.if-kind-eq4.true)

pub returns-then-kind-eq1 : goal.returns-then-kind-eq1
unfolding waiting_of
returns-then-kind-eq1 c = simp (ne_eqb _ _ c.if-kind-eq4.false, eq-eqb _ _ c.if-kind-eq1.true)

pub returns : goal.returns
unfolding waiting_of
returns c = simp (ne_eqb _ _ c.if-kind-eq4.false, ne_eqb _ _ c.if-kind-eq1.false)
