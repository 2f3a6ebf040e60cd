use Prim.Native.Nat.{ℕ, ◌+◌, ◌*◌, ◌≤◌, ◌<◌}
use mathlib.Core.Bool.{true}
use mathlib.Core.Path.{◌≡◌}
use mathlib.Core.List.{List}
use lib.ListN.{get_or, take, drop}
use Rattle.graph.specs.Search.{followed, distance_of}
use Rattle.usable.specs.Rows.{held_in, leads_of}
use Rattle.search.specs.Queue.{At}
use Rattle.search.specs.Tables.{tables_graph}
use Rattle.search.proofs.row.Given as goal

-- what holds before each v
pub record Turn (octets table : List ℕ) (places : ℕ) (rows : List (List ℕ)) (roles : List ℕ) (head : ℕ) (queue parent distance : List ℕ) (u far : ℕ) (line : List ℕ) (end v : ℕ) : Type 0 where
  pub small : places ≤ 96
  pub stands : At places (followed places (tables_graph (held_in octets) places table rows roles)) queue parent distance (end + 1) head v
  pub this : get_or queue head 0 ≡ u
  pub place : u < places
  pub next : far ≡ distance_of places distance u + 1
  pub leads : leads_of (get_or roles u 0) ≡ true
  pub is : line ≡ take places (drop (u * places) table)

abbrev pub invariant-loop-v : goal.invariant-loop-v
invariant-loop-v l =
    Turn l.octets l.table l.places l.rows l.roles l.head l.queue l.parent l.distance l.u l.far l.line l.end l.v
