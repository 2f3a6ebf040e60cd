use Prim.Native.Nat.{◌≤◌}
use mathlib.Core.Path.{◌≡◌}
use lib.ListN.{length}
use Rattle.usable.specs.Rows.{flag, counted_of}
use Rattle.usable.proofs.Slots.{Upto}
use Rattle.usable.proofs.counting.counting_lists.Given as goal

abbrev pub invariant-loop-list : goal.invariant-loop-list
invariant-loop-list l =
    (l.places ≤ 96) × (length l.counting ≡ 96) × Upto 0 (λ c. flag (counted_of l.places l.table l.rows c)) l.counting l.list
