use Prim.Native.Nat.{ℕ, ◌+◌, ◌≤◌, ◌<◌}
use mathlib.Core.Path.{◌≡◌}
use mathlib.Core.Bool.{Bool}
use mathlib.Core.List.{List}
use lib.ListN.{get_or}
use Rattle.graph.specs.Chains.{graph_by}
use Rattle.graph.specs.Search.{followed}
use Rattle.search.specs.Queue.{At}
use Rattle.search.proofs.anchors.Given as goal

-- what holds before each column, whatever the steps
pub record Turn (places : ℕ) (roles queue parent distance : List ℕ) (end v : ℕ) : Type 0 where
  pub small : places ≤ 96
  pub stands : (step : ℕ → ℕ → Bool) → At places (followed places (graph_by places roles step)) queue parent distance (end + 1) 0 v
  pub fresh : (w : ℕ) → v ≤ w → w < places → get_or parent w 0 ≡ 255

abbrev pub invariant-loop-v : goal.invariant-loop-v
invariant-loop-v l = Turn l.places l.roles l.queue l.parent l.distance l.end l.v
