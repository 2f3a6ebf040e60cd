-- The member is looked for at the contents, and ends where the element does.
use mathlib.Core.Path.{sym, ◌∙◌}
use Rattle.elements.specs.Steps.{only_of}
use Rattle.elements.proofs.Members.{on-none, on-found, kept_if}
use Rattle.elements.proofs.steps.only_member.Goals as goal

pub returns-in_err-member : goal.returns-in_err-member
unfolding only_of
returns-in_err-member c = on-none _ (sym c.element_tagged.ensures ∙ c.in_err-member.was) c.from_residual.ensures

pub returns : goal.returns
unfolding only_of
returns c = on-found _ _ (sym c.element_tagged.ensures ∙ c.in_ok-member.was) (c.then_some.ensures ∙ kept_if _ _)
