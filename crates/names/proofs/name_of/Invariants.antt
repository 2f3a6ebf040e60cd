use Prim.Native.Nat.{◌-◌}
use mathlib.Core.Path.{◌≡◌}
use Rattle.der.specs.Forms.{paper}
use Rattle.elements.specs.Elements.{members_of}
use Rattle.names.specs.Names.{sets_of, name_of}
use Rattle.names.proofs.name_of.Given as goal

abbrev pub invariant-loop-set : goal.invariant-loop-set
invariant-loop-set l = sets_of paper l.item (members_of paper l.item l.at l.e.end) l.seen ≡ name_of paper l.item l.e

abbrev pub decreases-loop-set : goal.decreases-loop-set
decreases-loop-set l = l.e.end - l.at
