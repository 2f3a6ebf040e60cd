-- A usual tag with a short header is the element that stands there; any other is asked for in the general way.
use mathlib.Core.Path.{refl, sym, ◌∙◌}
use native.Mathlib.Omega.{arith}
use Rattle.elements.specs.Elements.{found_tagged}
use Rattle.elements.proofs.Members.{tag-kept}
use Rattle.elements.proofs.Shorts.{short-found, short-within}
use Rattle.elements.proofs.elements.element_tagged.Goals as goal

pub overflow_add-result : goal.overflow_add-result
overflow_add-result c = omega (arith, short-within _ _ _ _ (sym c.short_end.ensures ∙ c.in-Some.is))

pub returns-in-Some : goal.returns-in-Some
unfolding found_tagged
returns-in-Some c =
    sym (tag-kept _ (short-found _ _ _ _ (c.usual.ensures c.if-usual.true) (sym c.short_end.ensures ∙ c.in-Some.is)) refl)
