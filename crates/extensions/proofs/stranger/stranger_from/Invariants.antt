use Prim.Native.Nat.{◌-◌, ◌≤◌}
use mathlib.Core.Path.{◌≡◌}
use Rattle.der.specs.Forms.{paper}
use Rattle.extensions.specs.Strange.{strange_from}
use Rattle.extensions.proofs.stranger.stranger_from.Given as goal

abbrev pub invariant-loop-passed : goal.invariant-loop-passed
invariant-loop-passed l = (l.from ≤ l.at) × (strange_from paper l.item l.from l.end ≡ strange_from paper l.item l.at l.end)

abbrev pub decreases-loop-passed : goal.decreases-loop-passed
decreases-loop-passed l = l.end - l.at
