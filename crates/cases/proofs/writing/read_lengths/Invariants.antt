use mathlib.Core.Path.{◌≡◌}
use Prim.Native.Nat.{◌-◌}
use lib.ListN.{length}
use Rattle.cases.proofs.writing.read_lengths.Given as goal

abbrev pub invariant-loop-i : goal.invariant-loop-i
invariant-loop-i l = length l.lengths ≡ length l.initial.lengths

abbrev pub decreases-loop-i : goal.decreases-loop-i
decreases-loop-i l = length l.lengths - l.i
