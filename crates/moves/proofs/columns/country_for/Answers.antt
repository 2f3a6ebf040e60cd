-- The version decides.
use mathlib.Core.Path.{ap, ◌∙◌}
use borrow.Author.Tests.{eq-eqb, ne_eqb}
use Rattle.letters.specs.TrueLetters.{true_of}
use Rattle.moves.specs.Moving.{country_for}
use Rattle.moves.proofs.columns.country_for.Goals as goal

pub returns-then-version-eq2 : goal.returns-then-version-eq2
unfolding country_for
returns-then-version-eq2 c = rw (eq-eqb _ _ c.if-version-eq2.true) (c.true_letters.ensures ∙ ap (true_of c.args.kind) c.item.ensures)

pub returns-else-version-eq2 : goal.returns-else-version-eq2
unfolding country_for
returns-else-version-eq2 c = rw (ne_eqb _ _ c.if-version-eq2.false)
