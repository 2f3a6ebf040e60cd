-- The answer that is told is the one that was asked for.
use Rattle.vrbolist.proofs.countries.vrbolist_anchors.Goals as goal

pub returns : goal.returns
returns c = rw c.anchors_of.ensures at c.anchors_told.ensures
