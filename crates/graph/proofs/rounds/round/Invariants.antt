use Prim.Native.Nat.{ℕ, ◌≤◌}
use mathlib.Core.List.{List}
use Rattle.graph.specs.Chains.{graph_of}
use Rattle.graph.specs.Search.{followed}
use Rattle.graph.specs.Rounds.{InRound}
use Rattle.graph.proofs.rounds.round.Given as goal

-- what holds before each row
pub record Turn (places : ℕ) (roles steps : List ℕ) (far : ℕ) (distance : List ℕ) (marked u : ℕ) : Type 0 where
  pub small : places ≤ 96
  pub late : 1 ≤ far
  pub stands : InRound places (followed places (graph_of places roles steps)) distance far u 0 marked

abbrev pub invariant-loop-u : goal.invariant-loop-u
invariant-loop-u l = Turn l.places l.roles l.steps l.far l.distance l.marked l.u
