use Prim.Native.Nat.{ℕ, ◌<◌, ◌≤◌}
use mathlib.Core.List.{List}
use Rattle.graph.specs.Chains.{graph_of}
use Rattle.graph.specs.Search.{followed, Reached}
use Rattle.graph.specs.Rounds.{RoundTable, Back}
use Rattle.graph.proofs.ReadingOff.{Forward}
use Rattle.graph.proofs.rounds.read_off.Given as goal

-- what holds before each place
pub record Turn (places : ℕ) (roles steps ways : List ℕ) (target : ℕ) (distance slots : List ℕ) (place far : ℕ) : Type 0 where
  pub small : places ≤ 96
  pub there : target < places
  pub marked : Reached distance target
  pub table : RoundTable places (followed places (graph_of places roles steps)) distance
  pub ways-are : Back places (followed places (graph_of places roles steps)) distance target ways 1 places
  pub stands : Forward places (followed places (graph_of places roles steps)) ways far place slots

abbrev pub invariant-loop-far : goal.invariant-loop-far
invariant-loop-far l = Turn l.places l.roles l.steps l.ways l.target l.fn.distance l.slots l.place l.far
