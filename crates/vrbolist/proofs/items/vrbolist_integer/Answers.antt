-- The answer is taken apart as it is defined to be told.
use mathlib.Core.Path.{sym, ◌∙◌}
use Rattle.vrbolist.specs.Told.{integer_told}
use mir.Syntax.{w64}
use mir.ValLaws.{to_z-of_z}
use Rattle.vrbolist.proofs.items.vrbolist_integer.Goals as goal

pub returns-in-Ok : goal.returns-in-Ok
unfolding integer_told
returns-in-Ok c = rw (sym c.integer.ensures ∙ c.in-Ok.is, to_z-of_z w64 c.in-Ok.value (record { sfits = c.in-Ok.known_told-1-own.given.0.1 }))

pub returns-in-Err : goal.returns-in-Err
unfolding integer_told
returns-in-Err c =
    rw (sym c.integer.ensures ∙ c.in-Err.is, c.number.ensures, c.detail.ensures)
