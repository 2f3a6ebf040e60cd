use Prim.Native.Nat.{◌-◌, ◌≤◌}
use Rattle.graph.specs.Chains.{graph_of}
use Rattle.graph.specs.Search.{followed}
use Rattle.graph.specs.Rounds.{InRound}
use Rattle.graph.proofs.rounds.distances.Given as goal

abbrev pub invariant-loop-marked : goal.invariant-loop-marked
invariant-loop-marked l =
    (l.places ≤ 96) × InRound l.places (followed l.places (graph_of l.places l.roles l.steps)) l.distance l.far l.places l.places l.marked

abbrev pub decreases-loop-marked : goal.decreases-loop-marked
decreases-loop-marked l = 97 - l.far
