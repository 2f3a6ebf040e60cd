use Prim.Native.Nat.{◌-◌}
use mathlib.Core.List.{◌∷◌}
use mathlib.Core.Path.{◌≡◌}
use Rattle.der.specs.Forms.{paper}
use Rattle.elements.specs.Elements.{members_of}
use Rattle.names.specs.Names.{attributes_of, one_set}
use Rattle.names.proofs.set_of.Given as goal

abbrev pub invariant-loop-value : goal.invariant-loop-value
invariant-loop-value l = attributes_of paper l.item (l.attribute ∷ members_of paper l.item l.attribute.end l.e.end) l.seen ≡ one_set paper l.item l.e l.initial.seen

abbrev pub decreases-loop-value : goal.decreases-loop-value
decreases-loop-value l = l.e.end - l.attribute.end
