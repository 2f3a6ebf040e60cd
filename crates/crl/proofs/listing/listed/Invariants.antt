use Prim.Native.Nat.{◌-◌}
use mathlib.Core.Path.{◌≡◌}
use Rattle.der.specs.Forms.{paper}
use Rattle.elements.specs.Elements.{members_of}
use Rattle.crl.specs.Listed.{some_lists, listed_of}
use Rattle.crl.proofs.listing.listed.Given as goal

abbrev pub invariant-loop-e : goal.invariant-loop-e
invariant-loop-e l = listed_of paper l.item l.from l.end l.serial ≡ some_lists paper l.item l.serial (members_of paper l.item l.at l.end)

abbrev pub decreases-loop-e : goal.decreases-loop-e
decreases-loop-e l = l.end - l.at
