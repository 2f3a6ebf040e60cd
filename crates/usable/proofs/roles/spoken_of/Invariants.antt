use Prim.Native.Nat.{◌≤◌}
use mathlib.Core.Path.{◌≡◌}
use Rattle.usable.specs.Rows.{held_in, spoken_below}
use Rattle.usable.proofs.roles.spoken_of.Given as goal

abbrev pub invariant-loop-list : goal.invariant-loop-list
invariant-loop-list l =
    (l.places ≤ 96) × (l.spoken ≡ spoken_below (held_in l.octets) l.rows l.counting l.own l.list)
