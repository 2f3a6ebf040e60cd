use Prim.Native.Nat.{◌-◌}
use Rattle.crl.specs.FastEntries.{NoneBefore}
use Rattle.crl.proofs.listing.first_like.Given as goal

abbrev pub invariant-loop-next : goal.invariant-loop-next
invariant-loop-next l = NoneBefore l.item l.from l.end l.serial l.at

abbrev pub decreases-loop-next : goal.decreases-loop-next
decreases-loop-next l = l.end - l.at
