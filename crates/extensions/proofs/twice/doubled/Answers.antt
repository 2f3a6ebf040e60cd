-- What is left to tell is told by the OIDs that the last round had no room for.
use mathlib.Core.Path.{refl, sym, ◌∙◌}
use Rattle.elements.specs.Elements.{inside}
use Rattle.extensions.specs.Strange.{strange_from}
use Rattle.extensions.proofs.Tables.{round-less, round-end}
use Rattle.extensions.proofs.twice.doubled.Goals as goal

pub loop-round-init : goal.loop-round-init
loop-round-init c = (λ l. (c.compared-round.ensures.left l).0, refl)

pub loop-round-smaller : goal.loop-round-smaller
loop-round-smaller c = round-less _ _ _ c.loop-round-test.true (λ l. (c.compared-round-in-loop-round.ensures.left l).1)

pub loop-round-preserved : goal.loop-round-preserved
loop-round-preserved c = (λ l. (c.compared-round-in-loop-round.ensures.left l).0, c.loop-round.invariant.1 ∙ rw (c.loop-round.invariant.0 c.loop-round-test.true) c.compared-round-in-loop-round.ensures.is)

pub returns : goal.returns
unfolding strange_from inside
returns c = sym (c.compared-round.ensures.is ∙ c.loop-round.invariant.1 ∙ round-end _ _ _ _ c.loop-round-test.false)
