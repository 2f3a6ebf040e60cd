-- The answer is taken apart as it is defined to be told.
use Rattle.vrbolist.specs.Anchors.{anchors_told}
use Rattle.vrbolist.proofs.countries.anchors_told.Goals as goal

pub returns-in-Ok : goal.returns-in-Ok
unfolding anchors_told
returns-in-Ok c = rw c.in-Ok.is

pub returns-in-Err : goal.returns-in-Err
unfolding anchors_told
returns-in-Err c = rw (c.in-Err.is, c.number.ensures, c.detail.ensures)
