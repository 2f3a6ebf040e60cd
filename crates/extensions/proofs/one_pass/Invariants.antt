use Prim.Native.Nat.{◌-◌}
use Rattle.extensions.proofs.Passing.{Far}
use Rattle.extensions.proofs.one_pass.Given as goal

abbrev pub invariant-loop-next : goal.invariant-loop-next
invariant-loop-next l =
    Far l.item l.extensions l.shaped l.marked l.critical l.repeated l.unsure l.slots l.marks l.at

abbrev pub decreases-loop-next : goal.decreases-loop-next
decreases-loop-next l =
    l.extensions.end - l.at
