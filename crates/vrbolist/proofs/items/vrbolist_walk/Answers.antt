-- The answer is taken apart as it is defined to be told.
use mathlib.Core.Path.{sym, ◌∙◌}
use Rattle.vrbolist.specs.Told.{walk_told}
use Rattle.vrbolist.proofs.items.vrbolist_walk.Goals as goal

pub returns-in-Ok : goal.returns-in-Ok
unfolding walk_told
returns-in-Ok c = rw (sym c.walk.ensures.answer ∙ c.in-Ok.is)

pub returns-in-Err : goal.returns-in-Err
unfolding walk_told
returns-in-Err c =
    rw (sym c.walk.ensures.answer ∙ c.in-Err.is, c.number.ensures, c.detail.ensures)
