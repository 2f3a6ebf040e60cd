-- The OID is compared with the document type list.
use mathlib.Core.Path.{sym, ◌∙◌}
use native.Mathlib.Omega.{arith}
use Rattle.extensions.proofs.Slots.{slot-types, slot-none}
use Rattle.extensions.proofs.slot.slot_apart.Goals as goal

pub returns-then-same : goal.returns-then-same
returns-then-same c = (omega arith, λ k l. slot-types _ k l (sym c.same.ensures ∙ c.if-same.true))

pub returns : goal.returns
returns c = (omega arith, λ k l. slot-none _ k l c.requires (sym c.same.ensures ∙ c.if-same.false))
