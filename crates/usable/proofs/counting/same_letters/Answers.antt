-- Each test answers one of the definition's.
use borrow.Author.Tests.{eq-eqb, ne_eqb}
use Rattle.usable.specs.Rows.{same_letters}
use Rattle.usable.proofs.counting.same_letters.Goals as goal

pub returns-else-a-b : goal.returns-else-a-b
unfolding same_letters
returns-else-a-b c = simp (ne_eqb _ _ c.if-a-b.false)

pub returns-then-a-b : goal.returns-then-a-b
unfolding same_letters
returns-then-a-b c = simp (eq-eqb _ _ c.if-a-b.true)
