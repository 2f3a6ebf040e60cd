use Prim.Native.Nat.{◌+◌, ◌*◌, ◌^◌, ◌≤◌}
use mathlib.Core.Path.{◌≡◌}
use lib.ListN.{drop}
use Rattle.writer.specs.Writing.{sum_all}
use Rattle.writer.proofs.sum_all.Given as goal

abbrev pub invariant-loop-size : goal.invariant-loop-size
invariant-loop-size l = (l.sum ≤ l.size-index * 2 ^ 32) × (l.sum + sum_all (drop l.size-index l.lengths) ≡ sum_all l.lengths)
