-- By the definition.
use Rattle.usable.specs.Rows.{held_in}
use Rattle.usable.proofs.roles.held.Goals as goal

pub returns : goal.returns
unfolding held_in
returns c = c.part.ensures
