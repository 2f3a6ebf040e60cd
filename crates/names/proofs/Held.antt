-- What is said of a name, and of what is none.
use Rattle.std.specs.Prelude.{Option, Some, None}
use mathlib.Core.Path.{◌≡◌}
use Rattle.names.specs.declared.Seen.{Seen}
use Rattle.names.specs.Names.{on_name}

module _ {A : Type 0} {x : Option Seen} where
  pub name-bad : {shapeless : A} (next : Seen → A) → x ≡ None → shapeless ≡ on_name x shapeless next
  unfolding on_name
  name-bad next h = rw h

  pub name-good : (shapeless : A) (next : Seen → A) {seen : Seen} {r : A} → x ≡ Some seen → r ≡ next seen → r ≡ on_name x shapeless next
  unfolding on_name
  name-good shapeless next h g = rw h g
