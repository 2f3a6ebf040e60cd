use mathlib.Core.Path.{◌≡◌}
use lib.ListN.{take}
use Rattle.octets.specs.Alike.{alike}
use Rattle.octets.proofs.equality.same_part.Given as goal

abbrev pub invariant-loop-i : goal.invariant-loop-i
invariant-loop-i l = l.equal ≡ alike (take l.i l.a) (take l.i l.b)
