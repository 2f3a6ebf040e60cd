use Prim.Native.Nat.{◌-◌, ◌≤◌}
use mathlib.Core.Path.{◌≡◌}
use lib.ListN.{length, drop}
use Rattle.writer.specs.Writing.{rows_good}
use Rattle.writer.proofs.rows_good.Given as goal

abbrev pub invariant-loop-i : goal.invariant-loop-i
invariant-loop-i l =
    (l.i ≤ length l.kinds) × (rows_good l.kinds l.flags l.lengths ≡ rows_good (drop l.i l.kinds) (drop l.i l.flags) (drop l.i l.lengths))

abbrev pub decreases-loop-i : goal.decreases-loop-i
decreases-loop-i l = length l.kinds - l.i
