use Prim.Native.Nat.{ℕ, ◌<◌, ◌≤◌}
use mathlib.Core.Path.{◌≡◌}
use mathlib.Core.List.{List}
use lib.ListN.{get_or}
use Rattle.graph.specs.Chains.{graph_of}
use Rattle.graph.specs.Search.{followed, distance_of}
use Rattle.graph.specs.Rounds.{InRound}
use Rattle.graph.proofs.rounds.reach.Given as goal

-- what holds before each column
pub record Turn (places : ℕ) (roles steps : List ℕ) (u far : ℕ) (distance : List ℕ) (count v : ℕ) : Type 0 where
  pub small : places ≤ 96
  pub known : u ≤ places
  pub this : distance_of places distance u ≡ far
  pub leads : u < places → get_or roles u 0 ≡ 3 → ⊥
  pub stands : InRound places (followed places (graph_of places roles steps)) distance far u v count

abbrev pub invariant-loop-v : goal.invariant-loop-v
invariant-loop-v l = Turn l.places l.roles l.steps l.u l.far l.distance l.count l.v
