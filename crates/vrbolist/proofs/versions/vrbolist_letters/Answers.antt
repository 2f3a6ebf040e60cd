-- The answer is taken apart as it is defined to be told.
use mathlib.Core.Path.{sym, ◌∙◌}
use Rattle.vrbolist.specs.Told.{letters_told}
use Rattle.vrbolist.proofs.versions.vrbolist_letters.Goals as goal

pub returns-in-Ok : goal.returns-in-Ok
unfolding letters_told
returns-in-Ok c =
    rw (sym c.letters_true.ensures ∙ c.in-Ok.is, c.one_if.ensures)

pub returns-in-Err : goal.returns-in-Err
unfolding letters_told
returns-in-Err c =
    rw (sym c.letters_true.ensures ∙ c.in-Err.is, c.number.ensures, c.detail.ensures)
