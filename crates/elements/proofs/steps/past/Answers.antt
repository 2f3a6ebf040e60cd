-- The end of the element that is there, else the place where it would start.
use mathlib.Core.Path.{sym, refl, ◌∙◌}
use Rattle.elements.specs.Steps.{past_of}
use Rattle.elements.proofs.Members.{on-missing, on-found}
use Rattle.elements.proofs.steps.past.Goals as goal

pub returns-in-Some : goal.returns-in-Some
unfolding past_of
returns-in-Some c = on-found _ _ (sym c.element_tagged.ensures ∙ c.in-Some.is) refl

pub returns-in-None : goal.returns-in-None
unfolding past_of
returns-in-None c = on-missing _ (sym c.element_tagged.ensures ∙ c.in-None.is)
