-- The answer is taken apart as it is defined to be told.
use mathlib.Core.Path.{sym, ◌∙◌}
use Rattle.vrbolist.specs.Told.{entry_told}
use Rattle.vrbolist.proofs.images.vrbolist_entry.Goals as goal

pub returns-in-Ok : goal.returns-in-Ok
unfolding entry_told
returns-in-Ok c = rw (sym c.entry.ensures ∙ c.in-Ok.is)

pub returns-in-Err : goal.returns-in-Err
unfolding entry_told
returns-in-Err c =
    rw (sym c.entry.ensures ∙ c.in-Err.is, c.number.ensures, c.detail.ensures)
