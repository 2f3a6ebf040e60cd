-- The answer is taken apart as it is defined to be told.
use Rattle.vrbolist.specs.Told.{days_told}
use mir.Syntax.{w64}
use mir.ValLaws.{to_z-of_z}
use Rattle.vrbolist.proofs.items.days_told.Goals as goal

pub returns-in-Ok : goal.returns-in-Ok
unfolding days_told
returns-in-Ok c = rw (c.in-Ok.is, to_z-of_z w64 c.in-Ok.days (record { sfits = c.in-Ok.known_told-1-own.given.0.1 }))

pub returns-in-Err : goal.returns-in-Err
unfolding days_told
returns-in-Err c = rw (c.in-Err.is, c.number.ensures, c.detail.ensures)
