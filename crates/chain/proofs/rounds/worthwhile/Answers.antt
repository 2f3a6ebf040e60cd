-- The last round is not asked about.
use borrow.Author.Tests.{eq-eqb}
use Rattle.chain.proofs.rounds.worthwhile.Goals as goal

pub returns-then-round-eq-LAST : goal.returns-then-round-eq-LAST
returns-then-round-eq-LAST c = λ e. eq-eqb _ _ e

pub returns-else-round-eq-LAST : goal.returns-else-round-eq-LAST
returns-else-round-eq-LAST c = λ e. absurd (c.if-round-eq-LAST.false e)
