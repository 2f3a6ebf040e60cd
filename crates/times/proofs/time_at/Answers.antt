-- The element is asked for under the one tag, then under the other.
use mathlib.Core.Path.{sym, ◌∙◌}
use Rattle.elements.specs.Elements.{found_tagged}
use Rattle.times.specs.Times.{time_at}
use Rattle.times.proofs.Tags.{utc-kept, other-kept}
use Rattle.times.proofs.time_at.Goals as goal

pub returns-in-Some : goal.returns-in-Some
unfolding time_at found_tagged
returns-in-Some c = utc-kept _ (sym c.element_tagged.ensures ∙ c.in-Some.is)

pub returns-in-None : goal.returns-in-None
unfolding time_at found_tagged
returns-in-None c = c.element_tagged-in-None.ensures ∙ other-kept _ (sym c.element_tagged.ensures ∙ c.in-None.is)
