-- The answer is taken apart as it is defined to be told.
use Rattle.vrbolist.proofs.images.vrbolist_image_for_day.Goals as goal

pub returns : goal.returns
returns c = rw c.open_for.ensures at c.image_told.ensures
