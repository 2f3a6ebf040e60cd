-- None so far counts.
use native.Mathlib.Omega.{arith}
use borrow.Author.Count.{below_more}
use Rattle.usable.proofs.roles.first_list.Goals as goal

pub loop-list-init : goal.loop-list-init
loop-list-init c = λ k h. absurd (omega arith)

pub bounds-counting-list : goal.bounds-counting-list
bounds-counting-list c = omega (arith, c.requires, c.loop-list-test.true)

pub returns-then-counting-list-eq1 : goal.returns-then-counting-list-eq1
returns-then-counting-list-eq1 c = (omega (arith, c.loop-list-test.true), c.loop-list.invariant)

pub loop-list-preserved : goal.loop-list-preserved
loop-list-preserved c = below_more _ _ c.loop-list.invariant c.if-counting-list-eq1.false

pub returns : goal.returns
returns c = (omega arith, λ k h. c.loop-list.invariant k (omega (arith, c.loop-list-test.false)))
