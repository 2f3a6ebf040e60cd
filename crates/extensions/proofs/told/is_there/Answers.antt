-- What is there is some extension.
use mathlib.Core.Path.{◌∙◌}
use Rattle.extensions.proofs.Slots.{some-present}
use Rattle.extensions.proofs.told.is_there.Goals as goal

pub returns : goal.returns
returns c = c.is_some.ensures ∙ some-present _
