-- The element that stands there is read as an extension.
use mathlib.Core.Path.{refl, sym, ◌∙◌}
use Rattle.extensions.proofs.members.any_at.Goals as goal

pub returns-in_err-e : goal.returns-in_err-e
returns-in_err-e c = rw c.from_residual.ensures (sym c.element_at.ensures ∙ c.in_err-e.was)

pub returns : goal.returns
returns c = record { e = _; found = sym c.element_at.ensures ∙ c.in_ok-e.was; ends = refl; is = c.any_extension.ensures }
