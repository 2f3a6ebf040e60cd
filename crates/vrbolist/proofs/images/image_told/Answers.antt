-- The answer is taken apart as it is defined to be told.
use Rattle.vrbolist.specs.Told.{image_told}
use Rattle.vrbolist.proofs.images.image_told.Goals as goal

pub returns-in-Ok : goal.returns-in-Ok
unfolding image_told
returns-in-Ok c = rw c.in-Ok.is

pub returns-in-Err : goal.returns-in-Err
unfolding image_told
returns-in-Err c = rw (c.in-Err.is, c.number.ensures, c.detail.ensures)
