use Prim.Native.Nat.{ℕ}
use mathlib.Core.Path.{◌≡◌}
use mathlib.Core.Bool.{Bool}
use lib.ListN.{length}
use Rattle.graph.specs.Chains.{graph_by}
use Rattle.graph.specs.Search.{followed}
use Rattle.search.specs.Queue.{QueueTables}
use Rattle.search.proofs.RecordsPut.{SoFar}
use Rattle.search.proofs.all.record_all.Given as goal

abbrev pub invariant-loop-place : goal.invariant-loop-place
invariant-loop-place l =
    (length l.out ≡ length l.initial.out)
    × ((step : ℕ → ℕ → Bool) → QueueTables l.places (followed l.places (graph_by l.places l.roles step)) l.parent l.distance
    → SoFar (graph_by l.places l.roles step) l.places l.initial.out l.out l.place)
