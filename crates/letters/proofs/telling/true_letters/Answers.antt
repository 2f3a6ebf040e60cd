-- The kind decides, and then the judge.
use Rattle.std.proofs.Common.{of_calls}
use borrow.Author.Tests.{eq-eqb, ne_eqb}
use Rattle.letters.specs.TrueLetters.{true_of}
use Rattle.letters.proofs.Told.{list_told, certificate_told}
use Rattle.letters.proofs.telling.true_letters.Goals as goal

pub returns-then-kind-eq4 : goal.returns-then-kind-eq4
unfolding true_of
returns-then-kind-eq4 c = rw (eq-eqb _ _ c.if-kind-eq4.true, ← c.judge.ensures) (list_told _ (λ f p. search of_calls) c.map_or.ensures)

pub returns-else-kind-eq4 : goal.returns-else-kind-eq4
unfolding true_of
returns-else-kind-eq4 c =
    rw (ne_eqb _ _ c.if-kind-eq4.false, ← c.judge-else-kind-eq4.ensures) (certificate_told _ (λ f p. search of_calls) c.map_or-else-kind-eq4.ensures)
