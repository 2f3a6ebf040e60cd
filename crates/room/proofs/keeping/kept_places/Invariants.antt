use Rattle.image.specs.Index.{entry_count}
use Rattle.image.proofs.Choosing.{Turn}
use Rattle.room.specs.Kept.{stays}
use Rattle.room.proofs.keeping.kept_places.Given as goal

abbrev pub invariant-loop-place : goal.invariant-loop-place
invariant-loop-place l = Turn l.image (entry_count l.image) (stays l.moment) l.places l.count l.place
