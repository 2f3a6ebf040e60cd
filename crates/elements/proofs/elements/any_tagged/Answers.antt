-- Another first octet is no such element; an element that is found is kept if its tag is the one asked for.
use mathlib.Core.Path.{sym, ◌∙◌}
use Rattle.elements.specs.Elements.{found_tagged}
use Rattle.elements.proofs.Members.{tag-missing, tag-kept-if}
use Rattle.elements.proofs.Tags.{found-other}
use Rattle.elements.proofs.elements.any_tagged.Goals as goal

pub returns-then-item-from : goal.returns-then-item-from
unfolding found_tagged
returns-then-item-from c = sym (found-other _ _ _ _ c.if-item-from.true)

pub returns-in_err-e : goal.returns-in_err-e
unfolding found_tagged
returns-in_err-e c = c.from_residual.ensures ∙ sym (tag-missing _ (sym c.element_at.ensures ∙ c.in_err-e.was))

pub returns : goal.returns
unfolding found_tagged
returns c = c.then_some.ensures ∙ tag-kept-if _ (sym c.element_at.ensures ∙ c.in_ok-e.was)
