use Prim.Native.Nat.{◌+◌, ◌-◌, ◌≤◌}
use Rattle.graph.specs.Search.{followed}
use Rattle.usable.specs.Rows.{held_in}
use Rattle.search.specs.Queue.{At}
use Rattle.search.specs.Tables.{tables_graph}
use Rattle.search.proofs.search.Given as goal

abbrev pub invariant-loop-head : goal.invariant-loop-head
invariant-loop-head l =
    (l.places ≤ 96) × At l.places (followed l.places (tables_graph (held_in l.octets) l.places l.table l.rows l.roles)) l.queue l.parent l.distance (l.last + 1) l.head l.places

abbrev pub decreases-loop-head : goal.decreases-loop-head
decreases-loop-head l = 97 - l.head
