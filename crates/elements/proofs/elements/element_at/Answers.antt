-- The element is what the step through the members finds, with the offset where the step began.
use mathlib.Core.Path.{sym, ◌∙◌}
use Rattle.elements.specs.Elements.{stepped, found_at}
use Rattle.elements.proofs.elements.element_at.Goals as goal

pub returns-in_err-tag : goal.returns-in_err-tag
unfolding found_at stepped
returns-in_err-tag c = rw (sym c.member.ensures ∙ c.in_err-tag.was) c.from_residual.ensures

pub returns : goal.returns
unfolding found_at stepped
returns c = rw (sym c.member.ensures ∙ c.in_ok-tag.was)
