use Prim.Native.Nat.{ℕ, ◌≤◌}
use mathlib.Core.List.{List}
use lib.ListN.{get_or}
use Rattle.graph.specs.Chains.{graph_of}
use Rattle.graph.specs.Search.{followed}
use Rattle.graph.specs.Rounds.{Back}
use Rattle.graph.proofs.rounds.one_back.Given as goal

-- what holds before each row
pub record Turn (places : ℕ) (roles steps : List ℕ) (target far : ℕ) (distance more : List ℕ) (u : ℕ) : Type 0 where
  pub small : places ≤ 96
  pub short : get_or distance target 0 ≤ 96
  pub stands : Back places (followed places (graph_of places roles steps)) distance target more far u

abbrev pub invariant-loop-u : goal.invariant-loop-u
invariant-loop-u l = Turn l.places l.roles l.steps l.target l.far l.distance l.more l.u
