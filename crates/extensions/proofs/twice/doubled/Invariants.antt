use Prim.Native.Nat.{◌-◌, ◌<◌}
use mathlib.Core.Path.{◌≡◌}
use mathlib.Core.Bool.{false, ◌||◌}
use Rattle.der.specs.Forms.{paper}
use Rattle.extensions.specs.Strange.{strange_from, twice_in}
use Rattle.extensions.proofs.twice.doubled.Given as goal

abbrev pub invariant-loop-round : goal.invariant-loop-round
invariant-loop-round l =
    (l.round.rest < l.end → l.round.twice ≡ false)
    × ((l.initial.round.twice || twice_in (strange_from paper l.item l.initial.round.rest l.end)) ≡ (l.round.twice || twice_in (strange_from paper l.item l.round.rest l.end)))

abbrev pub decreases-loop-round : goal.decreases-loop-round
decreases-loop-round l = l.end - l.round.rest
