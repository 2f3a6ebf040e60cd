use Prim.Native.Nat.{◌≤◌}
use lib.ListN.{get_or}
use Rattle.graph.specs.Chains.{graph_of}
use Rattle.graph.specs.Search.{followed}
use Rattle.graph.specs.Rounds.{Back}
use Rattle.graph.proofs.rounds.ways_back.Given as goal

abbrev pub invariant-loop-far : goal.invariant-loop-far
invariant-loop-far l =
    (l.places ≤ 96) × (get_or l.distance l.target 0 ≤ 96) × (1 ≤ l.far) × Back l.places (followed l.places (graph_of l.places l.roles l.steps)) l.distance l.target l.ways l.far l.places
