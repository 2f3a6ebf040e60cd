-- What is held of an extension, up to its form. No public promise cites this.
use Rattle.std.specs.Prelude.{ℕ, cond, List, Option, Some, None}
use Rattle.elements.specs.declared.elements.Element.{Element}
use Rattle.extensions.specs.declared.Held.{Held}
use Rattle.certificate.specs.declared.keys.Value.{Value}
use Rattle.certificate.specs.declared.keys.Value.TheVariants.{Stands, Missing, Unfit}
use Rattle.certificate.specs.Keys.{walks}

-- the value, from its contents on
unfoldable pub value_of : Held → Element
value_of held = record { tag = 0x04; at = held.start; contents = held.start; end = held.end }

-- the value, if it is there, not critical, and its contents pass the walk
unfoldable pub value_in : List ℕ → Option Held → Value
value_in s None = Missing
value_in s (Some held) = cond held.critical Unfit (cond (walks s (value_of held)) (Stands (value_of held)) Unfit)

-- what is to be said of none, of one that is otherwise, and of a value
unfoldable pub on_value : {A : Type 0} → Value → A → A → (Element → A) → A
on_value Missing missing unfit next = missing
on_value Unfit missing unfit next = unfit
on_value (Stands value) missing unfit next = next value
