-- A place that is not so far is none, and one that is so far is one unless it is a signer.
use mathlib.Core.Path.{sym, ◌∙◌}
use borrow.Author.Tests.{not-true, not-false, eqb-true, eqb-false}
use Rattle.graph.proofs.rounds.onward.Goals as goal

pub returns-else-distance-far : goal.returns-else-distance-far
returns-else-distance-far c = (λ e. absurd (c.if-distance-far.false (eqb-true _ _ e)), λ e d. absurd (c.if-distance-far.false d))

pub returns-then-distance-far : goal.returns-then-distance-far
returns-then-distance-far c =
    let o = c.octet.ensures in (
      λ e. (c.if-distance-far.true, λ s. eqb-false _ _ (not-true _ e) (o ∙ s)),
      λ e d. sym o ∙ eqb-true _ _ (not-false _ e),
    )
