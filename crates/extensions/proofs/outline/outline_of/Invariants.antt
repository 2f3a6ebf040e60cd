use Prim.Native.Nat.{◌-◌}
use mathlib.Core.Bool.{false}
use Rattle.extensions.proofs.Outlining.{Shaping, Marking}
use Rattle.extensions.proofs.outline.outline_of.Given as goal

abbrev pub invariant-loop-at : goal.invariant-loop-at
invariant-loop-at l = Shaping l.item l.extensions l.shaped l.at × Marking l.item l.extensions false l.marked l.at

abbrev pub decreases-loop-at : goal.decreases-loop-at
decreases-loop-at l = l.extensions.end - l.at
