use Prim.Native.Nat.{ℕ, ◌<◌, ◌≤◌}
use mathlib.Core.Bool.{true}
use mathlib.Core.Path.{◌≡◌}
use mathlib.Core.List.{List}
use lib.ListN.{get_or}
use Rattle.graph.specs.Chains.{graph_of}
use Rattle.graph.specs.Search.{followed}
use Rattle.graph.proofs.rounds.next.Given as goal

-- what holds before each place
pub record Turn (places : ℕ) (roles steps : List ℕ) (u far : ℕ) (ways : List ℕ) (looked : ℕ) : Type 0 where
  pub small : places ≤ 96
  pub known : u ≤ places
  pub leads : u < places → get_or roles u 0 ≡ 3 → ⊥
  pub none : (w : ℕ) → w < looked → get_or ways w 0 ≡ far → followed places (graph_of places roles steps) u w ≡ true → ⊥

abbrev pub invariant-loop-place : goal.invariant-loop-place
invariant-loop-place l = Turn l.places l.roles l.steps l.u l.far l.ways l.place
