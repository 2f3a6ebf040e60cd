-- By the definition.
use mathlib.Core.Path.{refl}
use Rattle.usable.specs.Rows.{row_at}
use Rattle.usable.proofs.opened.standing_at.Goals as goal

pub returns : goal.returns
unfolding row_at
returns c = refl
