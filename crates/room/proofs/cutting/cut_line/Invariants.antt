use mathlib.Core.Path.{◌≡◌}
use mathlib.Core.List.{◌++◌}
use lib.ListN.{length, take, drop}
use Rattle.room.specs.Kept.{cut_line}
use Rattle.room.proofs.cutting.cut_line.Given as goal

abbrev pub invariant-loop-i : goal.invariant-loop-i
invariant-loop-i l =
    (length l.out ≡ length l.initial.out) × (l.out ≡ take l.i (cut_line l.n l.table l.row l.columns) ++ drop l.i l.initial.out)
