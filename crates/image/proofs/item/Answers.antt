-- The bytes are those that the entry of the place tells.
use mathlib.Core.Path.{sym, ◌∙◌}
use Rattle.image.specs.Answer.{bytes_in, item_of}
use Rattle.image.proofs.item.Goals as goal

pub returns-in_default : goal.returns-in_default
unfolding item_of bytes_in
returns-in_default c = simp (sym c.entry.ensures ∙ c.in_default.is)

pub returns : goal.returns
unfolding item_of bytes_in
returns c = simp (sym c.entry.ensures ∙ c.in-Ok.is) c.part.ensures
