-- The answer is taken apart as it is defined to be told.
use mathlib.Core.Path.{sym, ◌∙◌}
use Rattle.vrbolist.specs.Told.{crl_told}
use Rattle.vrbolist.proofs.lists.vrbolist_crl.Goals as goal

pub returns-in-Ok : goal.returns-in-Ok
unfolding crl_told
returns-in-Ok c = rw (sym c.judge.ensures ∙ c.in-Ok.is) c.passed.ensures

pub returns-in-Err : goal.returns-in-Err
unfolding crl_told
returns-in-Err c =
    rw (sym c.judge.ensures ∙ c.in-Err.is, c.number.ensures, c.detail.ensures)
