use Rattle.search.specs.Queue.{Paths}
use Rattle.search.proofs.Traces.{Filling}
use Rattle.search.proofs.path_places.Given as goal

abbrev pub invariant-loop-place : goal.invariant-loop-place
invariant-loop-place l =
    (s : Paths l.places l.parent l.distance) → Filling s l.target l.place l.left l.slots

abbrev pub decreases-loop-place : goal.decreases-loop-place
decreases-loop-place l = l.left
