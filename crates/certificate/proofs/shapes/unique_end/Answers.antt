-- The 82 is looked for where the 81 ends.
use mathlib.Core.Path.{◌∙◌}
use Rattle.certificate.specs.Shape.{unique_end}
use Rattle.certificate.proofs.shapes.unique_end.Goals as goal

pub returns : goal.returns
unfolding unique_end
returns c = c.past-2.ensures ∙ rw c.past.ensures
