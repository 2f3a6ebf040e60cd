-- Each test answers one of the definition's.
use borrow.Author.Tests.{eq-eqb, ne_eqb}
use native.Mathlib.Omega.{arith}
use Rattle.std.proofs.lemmas.Bool.Decides.{nat_tests}
use Rattle.chain.specs.Near.{fresh_of}
use Rattle.chain.proofs.opening.fresh.Goals as goal

pub returns-else-near-eq1 : goal.returns-else-near-eq1
unfolding fresh_of
returns-else-near-eq1 c = simp (ne_eqb _ _ c.if-near-eq1.false)

pub returns-then-near-eq1 : goal.returns-then-near-eq1
unfolding fresh_of
returns-then-near-eq1 c = rw (eq-eqb _ _ c.if-near-eq1.true) (grind (arith, nat_tests))
