-- The answer is taken apart as it is defined to be told.
use Rattle.vrbolist.proofs.items.vrbolist_day_difference.Goals as goal

pub returns : goal.returns
returns c = rw c.day_difference.ensures at c.days_told.ensures
