use mathlib.Core.Path.{◌≡◌}
use Prim.Native.Nat.{◌-◌}
use Rattle.der.specs.Forms.{paper}
use Rattle.elements.specs.Elements.{members_of}
use Rattle.certificate.specs.Keys.{types_good}
use Rattle.certificate.proofs.keys.types_good.Given as goal

abbrev pub invariant-loop-e : goal.invariant-loop-e
invariant-loop-e l = types_good l.item (members_of paper l.item l.initial.at l.end) ≡ types_good l.item (members_of paper l.item l.at l.end)

abbrev pub decreases-loop-e : goal.decreases-loop-e
decreases-loop-e l = l.end - l.at
