-- The answer is taken apart as it is defined to be told.
use Rattle.vrbolist.proofs.images.vrbolist_image.Goals as goal

pub returns : goal.returns
returns c = rw c.«open».ensures at c.image_told.ensures
