-- The definition holds the same four numbers.
use mathlib.Core.Path.{refl}
use Rattle.pair.specs.Places.{alone}
use Rattle.pair.proofs.places.alone.Goals as goal

pub returns : goal.returns
unfolding alone
returns c = refl
